-- A loop over declarations.
use Rattle.std.proofs.Common.{◌≡◌, ◌++◌, map, drop}
use Rattle.spl_tree.specs.DeclarationTrees.{declarations}
use Rattle.spl_tree.specs.Spells.{declaration}
use Rattle.spl_sound.specs.spl_meaning.Names.{find, nothing_declared}
use Rattle.spl_sorts.specs.Tables.{table_of}
use Rattle.spl_rooms.specs.Walked.{globals_rooms}
use Rattle.spl_rooms.proofs.units.globals.Given as goal

-- the rooms so far and those from here on are all
abbrev pub invariant-loop-d : goal.invariant-loop-d
invariant-loop-d l =
    l.all.items ++ globals_rooms (find (table_of l.here)) (declarations (map declaration (drop l.d-index l.list)))
    ≡ l.initial.all.items ++ globals_rooms nothing_declared (declarations (map declaration l.list))
