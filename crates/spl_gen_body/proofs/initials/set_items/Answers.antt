-- One item more.
use Rattle.std.proofs.Common.{◌+◌, ap, sym, ◌∙◌, map, drop}
use Rattle.spl_tree.specs.Views.{letters}
use Rattle.spl_tree.specs.Spells.{item_tree}
use Rattle.spl_sorts.specs.spl_meaning.Names.{Names, find}
use Rattle.spl_gen_expr.specs.spl_found.OwnNames.{with_name, behind_items}
use Rattle.spl_sorts.specs.Tables.{table_of}
use Rattle.spl_initials.proofs.spl_places_proofs.DataWalks.{behind_step}
use Rattle.spl_initials.specs.Cells.{found_in}
use Rattle.spl_gen_body.proofs.InitialWalks.{item_step, item_end}
use Rattle.spl_gen_body.proofs.initials.set_items.Goals as goal

pub loop-item-preserved : goal.loop-item-preserved
loop-item-preserved c =
    let outer = find (table_of c.args.outer.now) in
    let here = find (table_of c.loop-item.here) in
    let own = c.args.form.own in
    let k = c.args.form.kind in
    let f = found_in c.args.list.now in
    let list = c.args.items.now in
    let i = c.loop-item.item-index in
    let x = c.item-item.result in
    let names = c.in_ok-declare.ensures ∙ ap (with_name here (letters x.name)) c.shaped_here-sort.ensures in
    record {
      code = λ e rest. c.loop-item.invariant.code e
          (item_step outer here _ own k f list i x c.loop-item-test.true c.item-item.is names c.in_ok-set_item.ensures rest);
      names = ap (λ (t : Names). behind_items outer own k t (map item_tree (drop (i + 1) list))) names
          ∙ sym (behind_step outer here own k list i x c.loop-item-test.true c.item-item.is) ∙ c.loop-item.invariant.names;
    }

-- no item is left
pub returns-clause-code : goal.returns-clause-code
returns-clause-code c =
    c.loop-item.invariant.code c.loop-item.code
    (item_end (find (table_of c.args.outer.now)) (find (table_of c.loop-item.here)) c.args.form.own c.args.form.kind (found_in c.args.list.now) c.args.items.now
    c.loop-item.item-index c.loop-item.code c.loop-item-test.false)
