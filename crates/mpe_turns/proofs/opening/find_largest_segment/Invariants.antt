-- The largest so far or one that is left is the largest of all.
use Rattle.std.proofs.Common.{◌≡◌, ◌≤◌, max, drop}
use Rattle.hp_program.specs.Programs.{segments_of}
use Rattle.mpe_worlds.specs.Opening.{largest_segment}
use Rattle.mpe_turns.proofs.opening.find_largest_segment.Given as goal

abbrev pub invariant-loop-words : goal.invariant-loop-words
invariant-loop-words l = record {
  largest_of_all : max l.size (largest_segment (drop l.words-index (segments_of l.program))) ≡ largest_segment (segments_of l.program);
  few : l.size ≤ 16383;
}
