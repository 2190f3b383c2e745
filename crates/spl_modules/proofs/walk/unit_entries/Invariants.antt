-- A loop over the declarations of a unit.
use Rattle.std.proofs.Common.{◌≡◌, map, drop}
use Rattle.spl_tree.specs.DeclarationTrees.{declarations}
use Rattle.spl_tree.specs.Spells.{declaration}
use Rattle.spl_modules.specs.Entered.{with_all, nothing_entered}
use Rattle.spl_modules.specs.Walks.{walk_of}
use Rattle.spl_modules.proofs.walk.unit_entries.Given as goal

-- what is known so far, and what the declarations from here on add, is all
abbrev pub invariant-loop-d : goal.invariant-loop-d
invariant-loop-d l =
    with_all l.unit.segment (walk_of l.all) (declarations (map declaration (drop l.d-index l.unit.items.items)))
    ≡ with_all l.unit.segment nothing_entered (declarations (map declaration l.unit.items.items))
