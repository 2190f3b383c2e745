-- The sessions of the seats so far are opened, and the other seats are left.
use Rattle.std.proofs.Common.{◌≡◌, ◌++◌}
use Rattle.mpe_turns.specs.Opened.{AreOpened}
use Rattle.mpe_turns.proofs.opening.open_sessions.Given as goal

abbrev pub invariant-loop-seat : goal.invariant-loop-seat
invariant-loop-seat l = record {
  opened : AreOpened l.programs l.yielded l.sessions.items;
  all : l.yielded ++ l.seat-iterator.rest.items ≡ l.fn.seats.items;
}
