use Rattle.std.proofs.Common.{◌≡◌, ◌+◌, drop}
use Rattle.job_text.specs.Rules.{first_failing}
use Rattle.job_text.proofs.rules.first_failing.Given as goal

-- the first test that fails is among those that are left
abbrev pub invariant-loop-i : goal.invariant-loop-i
invariant-loop-i l = first_failing (l.i + 1) (drop l.i l.kept) ≡ first_failing 1 l.kept
