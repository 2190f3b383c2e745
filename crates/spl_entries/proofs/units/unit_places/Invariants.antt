-- A loop over declarations.
use Rattle.std.proofs.Common.{◌≡◌, ◌++◌, map, drop}
use Rattle.spl_tree.specs.DeclarationTrees.{declarations}
use Rattle.spl_tree.specs.Spells.{declaration}
use Rattle.spl_sorts.specs.spl_meaning.Names.{find, nothing_declared}
use Rattle.spl_sorts.specs.Tables.{table_of}
use Rattle.spl_entries.specs.Entries.{entries_among, areas_among}
use Rattle.spl_entries.proofs.units.unit_places.Given as goal

-- the places so far and those from here on are all; and so it is with where the next data stand
abbrev pub invariant-loop-d : goal.invariant-loop-d
invariant-loop-d l = record {
  places :
      l.all.items ++ entries_among (find (table_of l.outer)) (find (table_of l.here)) l.next (declarations (map declaration (drop l.d-index l.list)))
      ≡ l.initial.all.items ++ entries_among nothing_declared nothing_declared l.fn.at (declarations (map declaration l.list));
  next :
      areas_among (find (table_of l.outer)) (find (table_of l.here)) l.next (declarations (map declaration (drop l.d-index l.list)))
      ≡ areas_among nothing_declared nothing_declared l.fn.at (declarations (map declaration l.list));
}
