-- No session before this one lives, from the first that is looked at on.
use Rattle.std.proofs.Common.{◌≡◌, drop, map}
use Rattle.mpe_worlds.specs.Dispatch.{first_live}
use Rattle.mpe_turns.proofs.monitor.find_live.Given as goal

abbrev pub invariant-loop-i : goal.invariant-loop-i
invariant-loop-i l = first_live l.i (drop l.i (map (λ s. s.ending) l.sessions)) ≡ first_live l.from (drop l.from (map (λ s. s.ending) l.sessions))
