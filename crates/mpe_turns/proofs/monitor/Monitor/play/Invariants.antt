-- The events that are left make of the monitor so far what all make of it at first.
use Rattle.std.proofs.Common.{◌≡◌, ◌≤◌, drop}
use Rattle.mpe_worlds.specs.Events.{played}
use Rattle.mpe_turns.specs.Monitors.{codes_in, played_by}
use Rattle.mpe_turns.proofs.monitor.Monitor.play.Given as goal

abbrev pub invariant-loop-event : goal.invariant-loop-event
invariant-loop-event l = record {
  few : l.count ≤ l.event-index;
  same_programs : l.self.overlay.programs ≡ l.fn.self.overlay.programs;
  same_base : l.self.overlay.base ≡ l.fn.self.overlay.base;
  rest : played (codes_in l.self) (played_by l.self l.count) (drop l.event-index l.events.items) ≡ played (codes_in l.fn.self) (played_by l.fn.self 0) l.events.items;
}
