use Rattle.job_gen.specs.Generated as generated
use Rattle.job_gen.proofs.GrowthLemmas.{line_grows, grows_then}
use Rattle.job_gen.proofs.growing.Growing.main_body.Goals as goal

pub returns : goal.returns
returns c =
    let first = line_grows c.args.self.now c.push.new.self (generated.plain _) c.in_ok-push.ensures.text c.in_ok-push.ensures.last in
    let last = line_grows c.calls.new.self c.push-2.new.self (generated.plain _) c.in_ok-push-2.ensures.text c.in_ok-push-2.ensures.last in
    grows_then c.args.self.now c.push.new.self c.push-2.new.self _ _ first
    (grows_then c.push.new.self c.calls.new.self c.push-2.new.self _ _ c.in_ok-calls.ensures last)
