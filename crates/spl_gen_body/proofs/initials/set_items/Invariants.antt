-- A loop over items.
use Rattle.std.proofs.Common.{◌≡◌, map, drop}
use Rattle.spl_tree.specs.Spells.{item_tree}
use Rattle.spl_sorts.specs.spl_meaning.Names.{find}
use Rattle.spl_gen_expr.specs.spl_found.OwnNames.{behind_items}
use Rattle.spl_sorts.specs.Tables.{table_of}
use Rattle.spl_initials.specs.Cells.{found_in, initials_of_items}
use Rattle.spl_branch.specs.declared.buffer.Code.{Code}
use Rattle.spl_body_code.specs.spl_code.Parts.{pieces}
use Rattle.spl_body_code.specs.spl_code.Appends.{Appends}
use Rattle.spl_body_code.specs.Cells.{initials_set}
use Rattle.spl_gen_body.proofs.initials.set_items.Given as goal

-- what is appended with the values from here on is all, and so it is with what names stand for
abbrev pub invariant-loop-item : goal.invariant-loop-item
invariant-loop-item l = record {
  code : (e : Code)
      → Appends (pieces (initials_set (initials_of_items (find (table_of l.outer)) l.form.own l.form.kind (found_in l.list) (find (table_of l.here)) (map item_tree (drop l.item-index l.items))))) l.code e
      → Appends (pieces (initials_set (initials_of_items (find (table_of l.outer)) l.form.own l.form.kind (found_in l.list) (find (table_of l.initial.here)) (map item_tree l.items)))) l.fn.code e;
  names : behind_items (find (table_of l.outer)) l.form.own l.form.kind (find (table_of l.here)) (map item_tree (drop l.item-index l.items))
      ≡ behind_items (find (table_of l.outer)) l.form.own l.form.kind (find (table_of l.initial.here)) (map item_tree l.items);
}
