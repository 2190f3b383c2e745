-- The largest so far or one of a program that is left is the largest of all.
use Rattle.std.proofs.Common.{◌≡◌, ◌≤◌, max, drop}
use Rattle.mpe_overlay.specs.Codes.{codes_of}
use Rattle.mpe_worlds.specs.Opening.{largest}
use Rattle.mpe_turns.proofs.opening.find_largest.Given as goal

abbrev pub invariant-loop-program : goal.invariant-loop-program
invariant-loop-program l = record {
  largest_of_all : max l.size (largest (drop l.program-index (codes_of l.programs))) ≡ largest (codes_of l.programs);
  few : l.size ≤ 16383;
}
