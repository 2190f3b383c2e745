use Rattle.std.proofs.Common.{◌≡◌, length}
use Rattle.mpe_regions.proofs.tables.no_guesses.Given as goal

abbrev pub invariant-loop-i : goal.invariant-loop-i
invariant-loop-i l = length l.guesses.items ≡ l.i
