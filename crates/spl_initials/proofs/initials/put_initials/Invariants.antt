-- A loop over declarations.
use Rattle.std.proofs.Common.{◌≡◌, map, drop}
use Rattle.spl_tree.specs.DeclarationTrees as decl
use Rattle.spl_tree.specs.Spells.{declaration}
use Rattle.spl_sorts.specs.spl_meaning.Names.{find}
use Rattle.spl_sorts.specs.spl_meaning.Places as places
use Rattle.spl_sorts.specs.spl_meaning.Runs.{global_address}
use Rattle.spl_places.specs.spl_found.OwnNames.{behind_declarations}
use Rattle.spl_sorts.specs.Tables.{table_of}
use Rattle.spl_initials.specs.Memory.{memory_of}
use Rattle.spl_initials.specs.Cells.{found_in, initials_by}
use Rattle.spl_initials.proofs.initials.put_initials.Given as goal

-- with the values from here on the words are those with all, and so it is with what names stand for
abbrev pub invariant-loop-d : goal.invariant-loop-d
invariant-loop-d l = record {
  words : places.put_initials global_address (initials_by l.own (find (table_of l.outer)) (found_in l.list) (find (table_of l.here)) (decl.declarations (map declaration (drop l.d-index l.declarations)))) (memory_of l.words)
      ≡ places.put_initials global_address (initials_by l.own (find (table_of l.outer)) (found_in l.list) (find (table_of l.initial.here)) (decl.declarations (map declaration l.declarations))) (memory_of l.initial.words);
  names : behind_declarations (find (table_of l.outer)) (find (table_of l.here)) (decl.declarations (map declaration (drop l.d-index l.declarations)))
      ≡ behind_declarations (find (table_of l.outer)) (find (table_of l.initial.here)) (decl.declarations (map declaration l.declarations));
}
