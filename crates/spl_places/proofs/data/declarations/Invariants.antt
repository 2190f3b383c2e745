-- A loop over declarations.
use Rattle.std.proofs.Common.{◌≡◌, ◌++◌, map, drop}
use Rattle.spl_tree.specs.DeclarationTrees as decl
use Rattle.spl_tree.specs.Spells.{declaration}
use Rattle.spl_sorts.specs.spl_meaning.Names.{find}
use Rattle.spl_spots.specs.spl_found.OwnNames.{behind_declarations}
use Rattle.spl_sorts.specs.Tables.{table_of}
use Rattle.spl_places.specs.ListedData.{datum_of, list_data}
use Rattle.spl_places.proofs.data.declarations.Given as goal

-- the items so far and those from here on are all, and so it is with what names stand for
abbrev pub invariant-loop-d : goal.invariant-loop-d
invariant-loop-d l = record {
  items : map datum_of l.all.items ++ list_data (find (table_of l.outer)) (find (table_of l.here)) (decl.declarations (map declaration (drop l.d-index l.list)))
      ≡ map datum_of l.initial.all.items ++ list_data (find (table_of l.outer)) (find (table_of l.initial.here)) (decl.declarations (map declaration l.list));
  names : behind_declarations (find (table_of l.outer)) (find (table_of l.here)) (decl.declarations (map declaration (drop l.d-index l.list)))
      ≡ behind_declarations (find (table_of l.outer)) (find (table_of l.initial.here)) (decl.declarations (map declaration l.list));
}
