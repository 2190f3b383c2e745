-- A loop over names.
use Rattle.std.proofs.Common.{◌≡◌, map, drop}
use Rattle.spl_tree.specs.Spells.{placed}
use Rattle.spl_sorts.specs.spl_meaning.Names.{find}
use Rattle.spl_uses.specs.spl_found.OwnNames.{behind_labels}
use Rattle.spl_uses.specs.spl_found.FoundDeclarations.{found_labels}
use Rattle.spl_sorts.specs.Tables.{table_of}
use Rattle.spl_lists.proofs.listed_names.labels.Given as goal

-- what is found, and what names stand for, from here on is what all names give
abbrev pub invariant-loop-name : goal.invariant-loop-name
invariant-loop-name l = record {
  first : found_labels (find (table_of l.here)) (map placed (drop l.name-index l.names)) l.report
      ≡ found_labels (find (table_of l.initial.here)) (map placed l.names) l.initial.report;
  names : behind_labels (find (table_of l.here)) (map placed (drop l.name-index l.names)) ≡ behind_labels (find (table_of l.initial.here)) (map placed l.names);
}
