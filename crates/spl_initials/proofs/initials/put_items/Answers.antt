-- One item more.
use Rattle.std.proofs.Common.{ℕ, ◌+◌, ap, sym, ◌∙◌, map, drop, Option}
use Rattle.spl_tree.specs.Views.{letters}
use Rattle.spl_tree.specs.Spells.{item_tree, shape_tree}
use Rattle.spl_sorts.specs.spl_meaning.Names.{Names, find}
use Rattle.spl_sorts.specs.spl_meaning.Tables.{shaped}
use Rattle.spl_sorts.specs.spl_meaning.Places as places
use Rattle.spl_sorts.specs.spl_meaning.Runs.{global_address}
use Rattle.spl_places.specs.spl_found.OwnNames.{over, with_name, behind_items}
use Rattle.spl_sorts.specs.Tables.{table_of}
use Rattle.spl_places.proofs.DataWalks.{behind_step}
use Rattle.spl_initials.specs.Memory.{memory_of}
use Rattle.spl_initials.specs.Cells.{found_in, initials_of_items}
use Rattle.spl_initials.proofs.InitialWalks.{item_step}
use Rattle.spl_initials.proofs.initials.put_items.Goals as goal

pub loop-item-preserved : goal.loop-item-preserved
loop-item-preserved c =
    let outer = find (table_of c.args.outer.now) in
    let here = find (table_of c.loop-item.here) in
    let own = c.args.form.own in
    let k = c.args.form.kind in
    let f = found_in c.args.list.now in
    let list = c.args.items.now in
    let i = c.loop-item.item-index in
    let x = c.item-item.result in
    let mem = memory_of c.loop-item.words in
    let rest = map item_tree (drop (i + 1) list) in
    let behind = with_name here (letters x.name) (shaped (over here outer) own k (shape_tree x.shape)) in
    let names = c.in_ok-declare.ensures ∙ ap (with_name here (letters x.name)) c.shaped_here-sort.ensures in
    record {
      words = ap (λ (t : Names). places.put_initials global_address (initials_of_items outer own k f t rest) (memory_of c.put_item.new.words)) names
          ∙ ap (λ (m : ℕ → Option ℕ). places.put_initials global_address (initials_of_items outer own k f behind rest) m) c.put_item.ensures
          ∙ sym (item_step outer here own k f list i x mem c.loop-item-test.true c.item-item.is) ∙ c.loop-item.invariant.words;
      names = ap (λ (t : Names). behind_items outer own k t rest) names
          ∙ sym (behind_step outer here own k list i x c.loop-item-test.true c.item-item.is) ∙ c.loop-item.invariant.names;
    }
