use Rattle.job_gen.specs.Generated as generated
use Rattle.job_gen.proofs.GrowthLemmas.{lines_grow}
use Rattle.job_gen.proofs.growing.Growing.declarations.Goals as goal

-- its two lines
pub returns : goal.returns
returns c =
    lines_grow c.args.self.now c.push.new.self c.push-2.new.self (generated.plain _) (generated.plain _) c.in_ok-push.ensures.text c.in_ok-push.ensures.last
    c.in_ok-push-2.ensures.text c.in_ok-push-2.ensures.last
