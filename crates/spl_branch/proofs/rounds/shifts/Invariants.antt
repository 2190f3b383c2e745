use Rattle.std.proofs.Common.{◌≡◌, ◌≤◌, ◌*◌, ◌++◌, drop}
use Rattle.spl_branch.specs.Rounds.{shifts_of}
use Rattle.spl_branch.proofs.rounds.shifts.Given as goal

-- the numbers made and those of the branches left are all; each branch adds at most three
abbrev pub invariant-loop-k : goal.invariant-loop-k
invariant-loop-k l = record {
  made : l.shifts.items ++ shifts_of l.shift (drop l.k l.turns) (drop l.k l.far) ≡ shifts_of 0 l.turns l.far;
  small : l.shift ≤ 3 * l.k;
}
