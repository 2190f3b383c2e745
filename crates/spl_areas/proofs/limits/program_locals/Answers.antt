-- The limits of lists are those of their items.
use Rattle.std.proofs.Common.{map, ◌∙◌}
use Rattle.std.proofs.lemmas.Result.{on_ok_weaker}
use Rattle.spl_sound.specs.Spelled.{source_of}
use Rattle.spl_areas.proofs.GatherWalks.{units_passed_is}
use Rattle.spl_areas.proofs.limits.program_locals.Goals as goal

pub returns : goal.returns
returns c =
    on_ok_weaker c.units_passed.result (λ e. e ∙ units_passed_is (map source_of c.args.units.now) c.args.first.now c.requires.1) c.units_passed.ensures
