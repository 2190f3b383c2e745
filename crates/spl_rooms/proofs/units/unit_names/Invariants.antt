-- A loop over declarations.
use Rattle.std.proofs.Common.{◌≡◌, map, drop}
use Rattle.spl_tree.specs.DeclarationTrees.{declarations}
use Rattle.spl_tree.specs.Spells.{declaration}
use Rattle.spl_sound.specs.spl_meaning.Names.{find, nothing_declared}
use Rattle.spl_sorts.specs.Tables.{table_of}
use Rattle.spl_places.specs.spl_found.OwnNames.{behind_declarations}
use Rattle.spl_rooms.proofs.units.unit_names.Given as goal

-- the names behind the declarations from here on are those behind all
abbrev pub invariant-loop-d : goal.invariant-loop-d
invariant-loop-d l =
    behind_declarations nothing_declared (find (table_of l.here)) (declarations (map declaration (drop l.d-index l.list)))
    ≡ behind_declarations nothing_declared nothing_declared (declarations (map declaration l.list))
