-- A loop over declarations.
use Rattle.std.proofs.Common.{◌≡◌, ◌++◌, map, drop}
use Rattle.spl_tree.specs.DeclarationTrees.{declarations}
use Rattle.spl_tree.specs.Spells.{declaration}
use Rattle.spl_entries.specs.Entries.{subroutines_entries}
use Rattle.spl_entries.proofs.procedures.subroutines.Given as goal

-- the places so far and those from here on are all
abbrev pub invariant-loop-d : goal.invariant-loop-d
invariant-loop-d l =
    l.all.items ++ subroutines_entries (declarations (map declaration (drop l.d-index l.list)))
    ≡ l.initial.all.items ++ subroutines_entries (declarations (map declaration l.list))
