-- A loop over declarations.
use Rattle.std.proofs.Common.{◌≡◌, ◌++◌, map, drop}
use Rattle.spl_tree.specs.DeclarationTrees.{declarations}
use Rattle.spl_tree.specs.Spells.{declaration}
use Rattle.spl_sound.specs.spl_meaning.Names.{find}
use Rattle.spl_sorts.specs.Tables.{table_of}
use Rattle.spl_places.specs.spl_found.OwnNames.{over}
use Rattle.spl_rooms.specs.Walked.{subroutines_rooms}
use Rattle.spl_rooms.proofs.bodies.subroutines.Given as goal

-- the rooms so far and those from here on are all
abbrev pub invariant-loop-d : goal.invariant-loop-d
invariant-loop-d l =
    let around = over (find (table_of l.own)) (find (table_of l.outer)) in
    l.all.items ++ subroutines_rooms around (declarations (map declaration (drop l.d-index l.list)))
    ≡ l.initial.all.items ++ subroutines_rooms around (declarations (map declaration l.list))
