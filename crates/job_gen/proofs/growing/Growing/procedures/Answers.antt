use Rattle.std.proofs.Common.{◌≡◌, arith, subst, ℕ}
use Rattle.job_gen.proofs.GrowthLemmas.{no_procedures, more_procedures}
use Rattle.job_gen.specs.Grows.{Grows}
use Rattle.job_gen.specs.Generated as generated
use Rattle.job_gen.proofs.growing.Growing.procedures.Goals as goal

pub loop-k-init : goal.loop-k-init
loop-k-init c = no_procedures c.args.self.now

pub loop-k-preserved : goal.loop-k-preserved
loop-k-preserved c = more_procedures c.args.self.now c.loop-k.self c.procedure_lines.new.self c.loop-k.k c.loop-k.invariant c.in_ok-procedure_lines.ensures

pub returns : goal.returns
returns c = let all : c.loop-k.k ≡ c.args.n = omega arith in subst (λ (n : ℕ). Grows c.args.self.now c.loop-k.self (generated.procedures n)) all c.loop-k.invariant
