-- The words so far and those of the seats that are left are all of them.
use Rattle.std.proofs.Common.{◌≡◌, ◌+◌, ◌*◌, ◌≤◌, drop}
use Rattle.mpe_worlds.specs.Opening.{seated_words}
use Rattle.mpe_turns.proofs.opening.count_words.Given as goal

abbrev pub invariant-loop-seat : goal.invariant-loop-seat
invariant-loop-seat l = record {
  counted : l.words + seated_words (drop l.seat-index l.seats) ≡ seated_words l.seats;
  few : l.words ≤ 131070 * l.seat-index;
}
