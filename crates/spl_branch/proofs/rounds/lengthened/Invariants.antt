use Rattle.std.proofs.Common.{◌≡◌, ◌++◌, drop}
use Rattle.spl_branch.specs.Rounds.{longer_from}
use Rattle.spl_branch.proofs.rounds.lengthened.Given as goal

-- the forms made and those of the branches left are all
abbrev pub invariant-loop-k : goal.invariant-loop-k
invariant-loop-k l = l.longer.items ++ longer_from l.stands l.shifts l.k (drop l.k l.turns) (drop l.k l.far) ≡ longer_from l.stands l.shifts 0 l.turns l.far
