-- A loop over the items of an EQUATE.
use Rattle.std.proofs.Common.{◌≡◌, map, drop}
use Rattle.spl_sorts.specs.spl_meaning.Names.{find}
use Rattle.spl_uses.specs.spl_found.OwnNames.{behind_equates}
use Rattle.spl_uses.specs.spl_found.FoundDeclarations.{found_equates}
use Rattle.spl_sorts.specs.Tables.{table_of}
use Rattle.spl_lists.specs.Arounds.{around_of}
use Rattle.spl_lists.specs.Sums.{equal_tree}
use Rattle.spl_lists.proofs.named_sums.equates.Given as goal

-- what is found, and what names stand for, from here on is what all items give
abbrev pub invariant-loop-item : goal.invariant-loop-item
invariant-loop-item l = record {
  first : found_equates (around_of l.around) (find (table_of l.here)) (map equal_tree (drop l.item-index l.items)) l.report
      ≡ found_equates (around_of l.around) (find (table_of l.initial.here)) (map equal_tree l.items) l.initial.report;
  names : behind_equates (around_of l.around).names (find (table_of l.here)) (map equal_tree (drop l.item-index l.items))
      ≡ behind_equates (around_of l.around).names (find (table_of l.initial.here)) (map equal_tree l.items);
}
