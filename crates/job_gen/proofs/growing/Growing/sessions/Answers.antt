use Rattle.std.proofs.Common.{◌≡◌, arith, subst, ℕ}
use Rattle.job_gen.proofs.GrowthLemmas.{no_sessions, more_sessions}
use Rattle.job_gen.specs.Grows.{Grows}
use Rattle.job_gen.specs.Generated as generated
use Rattle.job_gen.proofs.growing.Growing.sessions.Goals as goal

pub loop-j-init : goal.loop-j-init
loop-j-init c = no_sessions c.args.self.now

pub loop-j-preserved : goal.loop-j-preserved
loop-j-preserved c = more_sessions c.args.self.now c.loop-j.self c.session_pair.new.self c.loop-j.j c.loop-j.invariant c.in_ok-session_pair.ensures

pub returns : goal.returns
returns c = let all : c.loop-j.j ≡ c.args.n = omega arith in subst (λ (n : ℕ). Grows c.args.self.now c.loop-j.self (generated.sessions n)) all c.loop-j.invariant
