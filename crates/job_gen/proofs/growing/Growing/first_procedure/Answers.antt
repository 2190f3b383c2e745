use Rattle.job_gen.specs.Generated as generated
use Rattle.job_gen.proofs.GrowthLemmas.{line_grows}
use Rattle.job_gen.proofs.growing.Growing.first_procedure.Goals as goal

-- the draws are made in the order in which they stand
pub returns : goal.returns
returns c =
    let text = c.in_ok-push.ensures.text in
    let line = c.in_ok-line.ensures.ok in
    line_grows c.args.self.now c.push.new.self generated.first_procedure (cc) (cc)
