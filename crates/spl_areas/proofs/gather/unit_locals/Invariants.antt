-- A loop over declarations.
use Rattle.std.proofs.Common.{◌≡◌, ◌++◌, map, drop}
use Rattle.spl_tree.specs.DeclarationTrees.{declarations}
use Rattle.spl_tree.specs.Spells.{declaration}
use Rattle.spl_sound.specs.spl_meaning.Names.{find, nothing_declared}
use Rattle.spl_sorts.specs.Tables.{table_of}
use Rattle.spl_places.specs.ListedData.{datum_of}
use Rattle.spl_places.specs.Gathered.{items_among}
use Rattle.spl_areas.proofs.gather.unit_locals.Given as goal

-- the items so far and those from here on are all
abbrev pub invariant-loop-d : goal.invariant-loop-d
invariant-loop-d l =
    map datum_of l.all.items ++ items_among (find (table_of l.here)) (declarations (map declaration (drop l.d-index l.list)))
    ≡ map datum_of l.initial.all.items ++ items_among nothing_declared (declarations (map declaration l.list))
