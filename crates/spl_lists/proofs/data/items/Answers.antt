-- One item more.
use Rattle.std.proofs.Common.{◌+◌, ap, sym, ◌∙◌, map, drop, Option}
use Rattle.spl_tree.specs.Views.{letters}
use Rattle.spl_tree.specs.Spells.{item_tree, shape_tree}
use Rattle.spl_sorts.specs.spl_meaning.Faults.{Fault}
use Rattle.spl_sorts.specs.spl_meaning.Names.{Names, find}
use Rattle.spl_sorts.specs.spl_meaning.Tables.{shaped}
use Rattle.spl_uses.specs.spl_found.OwnNames.{over, with_name, behind_items}
use Rattle.spl_uses.specs.spl_found.FoundDeclarations.{found_items}
use Rattle.spl_sorts.specs.Tables.{table_of}
use Rattle.spl_lists.specs.Arounds.{around_of}
use Rattle.spl_lists.proofs.DataWalks.{item_step, behind_step}
use Rattle.spl_lists.proofs.data.items.Goals as goal

pub loop-i-preserved : goal.loop-i-preserved
loop-i-preserved c =
    let a = around_of c.args.around.now in
    let here = find (table_of c.loop-i.here) in
    let own = c.args.data.own in
    let k = c.args.data.kind in
    let list = c.args.items.now in
    let i = c.loop-i.i-index in
    let x = c.i-item.result in
    let rest = map item_tree (drop (i + 1) list) in
    let behind = with_name here (letters x.name) (shaped (over here a.names) own k (shape_tree x.shape)) in
    let names = c.in_ok-declare.ensures ∙ ap (with_name here (letters x.name)) c.shaped_here-sort.ensures in
    record {
      first = ap (λ (t : Names). found_items a t own k rest c.item.new.report) names
          ∙ ap (λ (f : Option Fault). found_items a behind own k rest f) c.item.ensures
          ∙ sym (item_step a here own k list i x c.loop-i.report c.loop-i-test.true c.i-item.is) ∙ c.loop-i.invariant.first;
      names = ap (λ (t : Names). behind_items a.names own k t rest) names
          ∙ sym (behind_step a.names here own k list i x c.loop-i-test.true c.i-item.is) ∙ c.loop-i.invariant.names;
    }
