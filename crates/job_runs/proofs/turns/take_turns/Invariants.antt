-- The turns that are left lead from here to where all led at first.
use Rattle.std.proofs.Common.{◌≡◌, ◌+◌, ◌*◌, ◌≤◌, ◌^◌}
use Rattle.mpe_turns.specs.mpe_worlds.Dispatch.{after}
use Rattle.mpe_turns.specs.Monitors.{codes_in, world_of}
use Rattle.job_runs.proofs.turns.take_turns.Given as goal

abbrev pub invariant-loop-left : goal.invariant-loop-left
invariant-loop-left l = record {
  rest : after (codes_in l.fn.monitor) l.quantum l.left (world_of l.monitor) ≡ after (codes_in l.fn.monitor) l.quantum l.turns (world_of l.fn.monitor);
  same_programs : l.monitor.overlay.programs ≡ l.fn.monitor.overlay.programs;
  same_base : l.monitor.overlay.base ≡ l.fn.monitor.overlay.base;
  spent : l.monitor.spent + l.quantum * l.left ≤ 2 ^ 60;
}

abbrev pub decreases-loop-left : goal.decreases-loop-left
decreases-loop-left l = l.left
