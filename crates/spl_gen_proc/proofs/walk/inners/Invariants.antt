-- A loop over declarations.
use Rattle.std.proofs.Common.{◌≡◌, ◌+◌, map, drop}
use Rattle.spl_tree.specs.DeclarationTrees.{declarations}
use Rattle.spl_tree.specs.Spells.{declaration}
use Rattle.spl_unit_laws.specs.spl_routine_code.Routines.{inners_among}
use Rattle.spl_gen_proc.proofs.walk.inners.Given as goal

-- those so far and those that are left are all
abbrev pub invariant-loop-item : goal.invariant-loop-item
invariant-loop-item l =
    l.count + inners_among (declarations (map declaration (drop l.item-index l.list))) ≡ inners_among (declarations (map declaration l.list))
