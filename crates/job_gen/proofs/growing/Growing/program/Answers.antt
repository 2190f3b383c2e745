use Rattle.std.proofs.Common.{◌∷◌, [], ◌++◌, ap, ◌∙◌}
use Rattle.job_gen.specs.Generated as generated
use Rattle.job_gen.proofs.GrowthLemmas.{bytes_grow, grows_then, head_told}
use Rattle.job_gen.proofs.growing.Growing.program.Goals as goal

pub returns : goal.returns
returns c =
    let told = c.as_bytes.ensures.value ∙ c.in_ok-line.ensures.ok ∙ head_told c.args.j c.args.self.now.last in
    let head =
    bytes_grow c.args.self.now c.push.new.self (generated.plain _ ∷ generated.plain _ ∷ [])
    (c.in_ok-push.ensures.text ∙ ap (λ t. c.args.self.now.text.items ++ t) told) c.in_ok-push.ensures.last in
    grows_then c.args.self.now c.push.new.self c.unit.new.self (generated.plain _ ∷ generated.plain _ ∷ []) generated.unit_lines head c.in_ok-unit.ensures
