use Rattle.job_gen.specs.Grows.{Grows}
use Rattle.job_gen.specs.Generated as generated
use Rattle.job_gen.proofs.growing.Growing.procedures.Given as goal

-- so many were appended
abbrev pub invariant-loop-k : goal.invariant-loop-k
invariant-loop-k l = Grows l.fn.self l.self (generated.procedures l.k)
