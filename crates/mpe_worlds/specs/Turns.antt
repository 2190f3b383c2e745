-- What a turn and an eviction make of a world.
use Rattle.std.specs.Prelude.{ℕ, ◌+◌, List, slice_get, slice_set, Option, None, Some, if◌then◌else◌}
use Rattle.mpe_overlay.specs.mpe_regions.Area.{Area, is_live}
use Rattle.mpe_overlay.specs.mpe_regions.Loads.{needed, dropped}
use Rattle.mpe_overlay.specs.Codes.{key_of, size_of}
use Rattle.mpe_worlds.specs.Worlds.{Run, World, segments_at}
use Rattle.mpe_worlds.specs.RunSteps.{key_needed, stepping}

-- the area when a session's turn begins: the segment that it needs is loaded, unless it is there, and counts as used last
abbrev pub area_for : List (List (List ℕ)) → Run → Area → Area
area_for codes r a = needed (key_needed r) (size_of codes (key_needed r)) a

-- a load more, where a key is not live
abbrev pub loads_after : ℕ → Area → ℕ → ℕ
loads_after key a loads = if is_live key a then loads else loads + 1

-- a turn of the session `who`, if there is one, with so many steps at most: its segment is needed, and then it steps
abbrev pub turn_of : List (List (List ℕ)) → ℕ → ℕ → World → Option Run → World
turn_of codes who quantum w None = w
turn_of codes who quantum w (Some r) = record {
  runs = slice_set w.runs who (stepping (segments_at codes r.program) (area_for codes r w.area) quantum r);
  area = area_for codes r w.area;
  turns = w.turns + 1;
  loads = loads_after (key_needed r) w.area w.loads;
  last = who;
}

abbrev pub turned : List (List (List ℕ)) → ℕ → ℕ → World → World
turned codes who quantum w = turn_of codes who quantum w (slice_get w.runs who)

-- a segment of a program is given up
abbrev pub evicted : ℕ → ℕ → World → World
evicted program seg w = record w { area = dropped (key_of program seg) w.area }
