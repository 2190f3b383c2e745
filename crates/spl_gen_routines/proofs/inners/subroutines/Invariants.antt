-- A loop over the declarations of a body.
use Rattle.std.proofs.Common.{map, drop}
use Rattle.spl_tree.specs.DeclarationTrees.{declarations}
use Rattle.spl_tree.specs.Spells.{declaration}
use Rattle.spl_gen_routines.specs.Views.{around_of}
use Rattle.spl_routine_code.proofs.InnerWalks.{InnersWalk}
use Rattle.spl_gen_routines.proofs.inners.subroutines.Given as goal

-- so many subroutines have been appended, and these declarations are left
abbrev pub invariant-loop-item : goal.invariant-loop-item
invariant-loop-item l =
    InnersWalk (around_of l.around) l.rooms l.room l.entry (declarations (map declaration l.list)) (declarations (map declaration (drop l.item-index l.list)))
    l.fn.code l.code l.count
