use Rattle.std.proofs.Common.{◌≡◌, ℕ}
use Rattle.spl_branch.specs.Rounds.{rounds, near}
use Rattle.spl_branch.proofs.rounds.settle.Given as goal

abbrev pub invariant-loop-far : goal.invariant-loop-far
invariant-loop-far l = (m : ℕ) × (l.far.items ≡ rounds l.plan.stands.items l.plan.turns.items m)

abbrev pub decreases-loop-far : goal.decreases-loop-far
decreases-loop-far l = near l.far.items
