-- The subroutines stand behind the procedure.
use Rattle.std.proofs.Common.{◌∙◌, ap, length, map}
use Rattle.spl_tree.specs.DeclarationTrees.{declarations}
use Rattle.spl_tree.specs.Spells.{declaration}
use Rattle.spl_sound.specs.spl_meaning.Names.{find}
use Rattle.spl_modules.specs.Entered.{Entered, inner_indexes}
use Rattle.spl_modules.proofs.walk.procedure.Goals as goal

pub returns-clause-names : goal.returns-clause-names
returns-clause-names c =
    c.in_ok-own.ensures.names
    ∙ ap (λ (t : Entered). find (inner_indexes (length (t.made c.args.heading.now.segment)) (declarations (map declaration c.args.list.now))))
    c.in_ok-enter.ensures.entered
