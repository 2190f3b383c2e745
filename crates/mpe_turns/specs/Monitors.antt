-- The world that a monitor stands for.
use Rattle.std.specs.Prelude.{ℕ, List}
use Rattle.mpe_overlay.specs.Codes.{codes_of}
use Rattle.mpe_worlds.specs.Worlds.{World}
use Rattle.mpe_worlds.specs.Events.{Played}
use Rattle.mpe_turns.specs.declared.monitor.Monitor.{Monitor}
use Rattle.mpe_turns.specs.Stands.{runs_of}

-- the segments of its programs
abbrev pub codes_in : Monitor → List (List (List ℕ))
codes_in m = codes_of m.overlay.programs.items

-- the world: its sessions, the regions of its code area, and its counts
abbrev pub world_of : Monitor → World
world_of m = record {
  runs = runs_of (codes_in m) m.sessions.items;
  area = m.overlay.regions.area;
  turns = m.turns;
  loads = m.overlay.loads;
  last = m.last;
}

-- the world, with what was spent and a count of the events that happened
abbrev pub played_by : Monitor → ℕ → Played
played_by m count = record { world = world_of m; spent = m.spent; count = count }
