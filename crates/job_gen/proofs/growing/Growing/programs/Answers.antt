use Rattle.std.proofs.Common.{◌≡◌, arith, subst, ℕ}
use Rattle.job_gen.proofs.GrowthLemmas.{no_programs, more_programs}
use Rattle.job_gen.specs.Grows.{Grows}
use Rattle.job_gen.specs.Generated as generated
use Rattle.job_gen.proofs.growing.Growing.programs.Goals as goal

pub loop-j-init : goal.loop-j-init
loop-j-init c = no_programs c.args.self.now

pub loop-j-preserved : goal.loop-j-preserved
loop-j-preserved c = more_programs c.args.self.now c.loop-j.self c.program.new.self c.loop-j.j c.loop-j.invariant c.in_ok-program.ensures

pub returns : goal.returns
returns c = let all : c.loop-j.j ≡ c.args.n = omega arith in subst (λ (n : ℕ). Grows c.args.self.now c.loop-j.self (generated.programs n)) all c.loop-j.invariant
