use Rattle.std.proofs.Common.{ℕ, List, Vec, Global, ◌++◌, ap, ◌∙◌}
use Rattle.job_gen.specs.Generated as generated
use Rattle.job_gen.proofs.GrowthLemmas.{line_grows, later_told}
use Rattle.job_gen.specs.Draws.{next, drawn}
use Rattle.job_gen.proofs.growing.Growing.later_procedure.Goals as goal

-- the draws are made in the order in which they stand
pub returns : goal.returns
returns c =
    let first = c.in_ok-push.ensures.last in
    let second = c.draw-a.ensures.last ∙ ap next first in
    let third = c.draw-b.ensures.last ∙ ap next second in
    let kept = c.draw-c.ensures.text ∙ c.draw-b.ensures.text ∙ c.draw-a.ensures.text in
    line_grows c.args.self.now c.push-2.new.self (generated.later_procedure c.args.k)
    (c.in_ok-push-2.ensures.text ∙ ap (λ (t : Vec ℕ Global). t.items ++ c.as_bytes-2.result.now) kept
    ∙ ap (λ (t : List ℕ). t ++ c.as_bytes-2.result.now) c.in_ok-push.ensures.text
    ∙ later_told c.args.self.now.text.items c.as_bytes.result.now c.as_bytes-2.result.now c.args.k c.draw-a.result c.draw-b.result c.draw-c.result
    c.args.self.now.last (c.as_bytes.ensures.value ∙ c.in_ok-front.ensures.ok) (c.as_bytes-2.ensures.value ∙ c.in_ok-rest.ensures.ok)
    (c.draw-a.ensures.value ∙ ap drawn first) (c.draw-b.ensures.value ∙ ap drawn second) (c.draw-c.ensures.value ∙ ap drawn third))
    (c.in_ok-push-2.ensures.last ∙ c.draw-c.ensures.last ∙ ap next third)
