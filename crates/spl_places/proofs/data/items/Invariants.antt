-- A loop over items.
use Rattle.std.proofs.Common.{◌≡◌, ◌++◌, map, drop}
use Rattle.spl_tree.specs.Spells.{item_tree}
use Rattle.spl_sorts.specs.spl_meaning.Names.{find}
use Rattle.spl_spots.specs.spl_found.OwnNames.{behind_items}
use Rattle.spl_sorts.specs.Tables.{table_of}
use Rattle.spl_places.specs.ListedData.{datum_of, items_data}
use Rattle.spl_places.proofs.data.items.Given as goal

-- the items so far and those from here on are all, and so it is with what names stand for
abbrev pub invariant-loop-item : goal.invariant-loop-item
invariant-loop-item l = record {
  items : map datum_of l.all.items ++ items_data (find (table_of l.outer)) l.form.own l.form.kind (find (table_of l.here)) (map item_tree (drop l.item-index l.items))
      ≡ map datum_of l.initial.all.items ++ items_data (find (table_of l.outer)) l.form.own l.form.kind (find (table_of l.initial.here)) (map item_tree l.items);
  names : behind_items (find (table_of l.outer)) l.form.own l.form.kind (find (table_of l.here)) (map item_tree (drop l.item-index l.items))
      ≡ behind_items (find (table_of l.outer)) l.form.own l.form.kind (find (table_of l.initial.here)) (map item_tree l.items);
}
