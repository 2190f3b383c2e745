-- One part more of a sum.
use Rattle.std.proofs.Common.{rules, ◌≡◌, ◌+◌, ◌+ℤ◌, ℤ, map, drop, Some, ap, sym, subst, ◌∙◌, to_z, of_z, arith, w64}
use Rattle.std.proofs.lemmas.Int.{ints}
use mir.Syntax.{w128}
use mir.Val.{SFits}
use Rattle.spl_tree.specs.Spells.{term}
use Rattle.spl_sorts.specs.spl_meaning.Names.{sum_from, signed_term}
use Rattle.spl_sorts.specs.Tables.{names_of}
use Rattle.spl_lists.specs.Sums.{IsSumOf}
use Rattle.spl_lists.proofs.EquateWalks.{none_left, one_more, more_fits}
use Rattle.spl_lists.proofs.named_sums.sum.Goals as goal

-- a part without a value
pub returns-in_err-part : goal.returns-in_err-part
returns-in_err-part c =
    c.from_residual.ensures
    ∙ sym (none_left (names_of c.args.names.now) c.args.terms.now c.loop-minus.minus-index c.loop-minus-item.result (to_z w128 c.loop-minus.sum-bits)
    c.loop-minus-test.true c.loop-minus-item.is c.in_err-part.ensures)
    ∙ c.loop-minus.invariant.value

-- a part with one
pub loop-minus-preserved : goal.loop-minus-preserved
loop-minus-preserved c =
    let names = names_of c.args.names.now in
    let list = c.args.terms.now in
    let i = c.loop-minus.minus-index in
    let x = c.loop-minus-item.result in
    let s = to_z w128 c.loop-minus.sum-bits in
    let p = c.in_ok-part.part in
    let r = c.with_part-sum.result in
    let fits : SFits w64 p = search rules in
    let same : to_z w64 (of_z w64 p) ≡ p = omega (arith, ints) in
    let fits_sum : SFits w128 r = search rules in
    let same_sum : to_z w128 (of_z w128 r) ≡ r = omega (arith, ints) in
    let is = c.with_part-sum.ensures ∙ ap (λ (z : ℤ). s +ℤ signed_term x.0 z) same in
    record {
      small = subst (λ (z : ℤ). IsSumOf (i + 1) z) (sym same_sum) (more_fits i s p r x.0 c.loop-minus.invariant.small fits is);
      value = ap (λ (z : ℤ). sum_from names (Some z) (map term (drop (i + 1) list))) same_sum
          ∙ one_more names list i x s p r c.loop-minus-test.true c.loop-minus-item.is c.in_ok-part.ensures is ∙ c.loop-minus.invariant.value;
    }
