-- Where there is no map there are no names.
use Rattle.std.proofs.Common.{[], Option, ap, ◌∙◌}
use Rattle.std.specs.Prelude.{unwrap_or}
use Rattle.spl_sound.specs.spl_meaning.Names.{find}
use Rattle.spl_unit_laws.specs.spl_modules.Entered.{Indexes}
use Rattle.spl_unit_walks.proofs.indexes.own_subroutines.Goals as goal

pub returns-in-None : goal.returns-in-None
returns-in-None c = c.args.fixed.now.empty ∙ ap (λ (o : Option Indexes). unwrap_or o (find [])) c.in-None.ensures
