-- A loop over items.
use Rattle.std.proofs.Common.{◌≡◌, map, drop}
use Rattle.spl_tree.specs.Spells.{item_tree}
use Rattle.spl_sorts.specs.spl_meaning.Names.{find}
use Rattle.spl_uses.specs.spl_found.OwnNames.{behind_items}
use Rattle.spl_uses.specs.spl_found.FoundDeclarations.{found_items}
use Rattle.spl_sorts.specs.Tables.{table_of}
use Rattle.spl_lists.specs.Arounds.{around_of}
use Rattle.spl_lists.proofs.data.items.Given as goal

-- what is found, and what names stand for, from here on is what all items give
abbrev pub invariant-loop-i : goal.invariant-loop-i
invariant-loop-i l = record {
  first : found_items (around_of l.around) (find (table_of l.here)) l.data.own l.data.kind (map item_tree (drop l.i-index l.items)) l.report
      ≡ found_items (around_of l.around) (find (table_of l.initial.here)) l.data.own l.data.kind (map item_tree l.items) l.initial.report;
  names : behind_items (around_of l.around).names l.data.own l.data.kind (find (table_of l.here)) (map item_tree (drop l.i-index l.items))
      ≡ behind_items (around_of l.around).names l.data.own l.data.kind (find (table_of l.initial.here)) (map item_tree l.items);
}
