use Rattle.job_gen.specs.Grows.{Grows}
use Rattle.job_gen.specs.Generated as generated
use Rattle.job_gen.proofs.growing.Growing.programs.Given as goal

-- so many were appended
abbrev pub invariant-loop-j : goal.invariant-loop-j
invariant-loop-j l = Grows l.fn.self l.self (generated.programs l.j)
