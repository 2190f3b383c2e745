-- No stack before this one is too small.
use Rattle.std.proofs.Common.{◌≡◌, drop}
use Rattle.mpe_turns.specs.Opening.{small_stack_from}
use Rattle.mpe_turns.proofs.opening.check_stacks.Given as goal

abbrev pub invariant-loop-i : goal.invariant-loop-i
invariant-loop-i l = small_stack_from l.i l.programs (drop l.i l.seats) ≡ small_stack_from 0 l.programs l.seats
