use Rattle.std.proofs.Common.{rules, ◌≡◌, ◌<◌, ◌+◌, Bool, true, false, length, sym, ap, ◌∙◌}
use Rattle.std.specs.Prelude.{◌&&◌}
use Rattle.spl_types.proofs.FormalLists.{left, step}
use Rattle.spl_types.proofs.alike.same_formals.Goals as goal

-- two that are not alike
pub returns-then-not-same_formal : goal.returns-then-not-same_formal
returns-then-not-same_formal c =
    let a = c.args.a.now in
    let b = c.args.b.now in
    let i = c.loop-i.i in
    let in_a : i < length a = search rules in
    let in_b : i < length b = search rules in
    let unlike : c.same_formal.result ≡ false = search rules in
    sym (sym c.loop-i.invariant.answer ∙ step a b i c.index-a-i.result c.index-b-i.result in_a in_b (search rules) (search rules)
    ∙ ap (λ (x : Bool). x && left a b (i + 1)) (sym c.same_formal.ensures ∙ unlike))

-- two that are alike
pub loop-i-preserved : goal.loop-i-preserved
loop-i-preserved c =
    let a = c.args.a.now in
    let b = c.args.b.now in
    let i = c.loop-i.i in
    let in_a : i < length a = search rules in
    let in_b : i < length b = search rules in
    let alike : c.same_formal.result ≡ true = search rules in
    record {
      answer = sym (sym c.loop-i.invariant.answer ∙ step a b i c.index-a-i.result c.index-b-i.result in_a in_b (search rules) (search rules)
          ∙ ap (λ (x : Bool). x && left a b (i + 1)) (sym c.same_formal.ensures ∙ alike));
      lengths = c.loop-i.invariant.lengths;
    }
