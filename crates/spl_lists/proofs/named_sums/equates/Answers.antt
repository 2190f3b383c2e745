-- One item more.
use Rattle.std.proofs.Common.{◌+◌, ap, sym, ◌∙◌, map, drop, Option}
use Rattle.std.specs.Prelude.{ℤ}
use Rattle.spl_tree.specs.Views.{letters}
use Rattle.spl_tree.specs.Spells.{term}
use Rattle.spl_sorts.specs.spl_meaning.Faults.{Fault}
use Rattle.spl_sorts.specs.spl_meaning.Names as n
use Rattle.spl_sorts.specs.spl_meaning.Names.{Names, find, kept_value, sum_value}
use Rattle.spl_uses.specs.spl_found.OwnNames.{over, with_name, behind_equates}
use Rattle.spl_uses.specs.spl_found.FoundDeclarations.{found_equates}
use Rattle.spl_sorts.specs.Tables.{table_of}
use Rattle.spl_lists.specs.Arounds.{around_of}
use Rattle.spl_lists.specs.Sums.{equal_tree}
use Rattle.spl_lists.proofs.EquateWalks.{equate_step, equates_step}
use Rattle.spl_lists.proofs.named_sums.equates.Goals as goal

pub loop-item-preserved : goal.loop-item-preserved
loop-item-preserved c =
    let a = around_of c.args.around.now in
    let here = find (table_of c.loop-item.here) in
    let list = c.args.items.now in
    let i = c.loop-item.item-index in
    let x = c.item-item.result in
    let rest = map equal_tree (drop (i + 1) list) in
    let behind = with_name here (letters x.0) (n.equate (kept_value (sum_value (over here a.names) (map term x.2.items)))) in
    let value = c.sum_here-value.ensures ∙ ap (λ ts. sum_value (over here a.names) (map term ts)) c.deref.ensures.value in
    let kept = c.kept.ensures ∙ ap kept_value value in
    let names = c.in_ok-declare.ensures ∙ ap (λ (v : Option ℤ). with_name here (letters x.0) (n.equate v)) kept in
    record {
      first = ap (λ (t : Names). found_equates a t rest c.equate.new.report) names
          ∙ ap (λ (f : Option Fault). found_equates a behind rest f) c.equate.ensures
          ∙ sym (equate_step a here list i x c.loop-item.report c.loop-item-test.true c.item-item.is) ∙ c.loop-item.invariant.first;
      names = ap (λ (t : Names). behind_equates a.names t rest) names
          ∙ sym (equates_step a.names here list i x c.loop-item-test.true c.item-item.is) ∙ c.loop-item.invariant.names;
    }
