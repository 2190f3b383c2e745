-- A loop over items.
use Rattle.std.proofs.Common.{◌≡◌, map, drop}
use Rattle.spl_tree.specs.Spells.{item_tree}
use Rattle.spl_sorts.specs.spl_meaning.Names.{find}
use Rattle.spl_sorts.specs.spl_meaning.Places as places
use Rattle.spl_sorts.specs.spl_meaning.Runs.{global_address}
use Rattle.spl_places.specs.spl_found.OwnNames.{behind_items}
use Rattle.spl_sorts.specs.Tables.{table_of}
use Rattle.spl_initials.specs.Memory.{memory_of}
use Rattle.spl_initials.specs.Cells.{found_in, initials_of_items}
use Rattle.spl_initials.proofs.initials.put_items.Given as goal

-- with the values from here on the words are those with all, and so it is with what names stand for
abbrev pub invariant-loop-item : goal.invariant-loop-item
invariant-loop-item l = record {
  words : places.put_initials global_address (initials_of_items (find (table_of l.outer)) l.form.own l.form.kind (found_in l.list) (find (table_of l.here)) (map item_tree (drop l.item-index l.items))) (memory_of l.words)
      ≡ places.put_initials global_address (initials_of_items (find (table_of l.outer)) l.form.own l.form.kind (found_in l.list) (find (table_of l.initial.here)) (map item_tree l.items)) (memory_of l.initial.words);
  names : behind_items (find (table_of l.outer)) l.form.own l.form.kind (find (table_of l.here)) (map item_tree (drop l.item-index l.items))
      ≡ behind_items (find (table_of l.outer)) l.form.own l.form.kind (find (table_of l.initial.here)) (map item_tree l.items);
}
