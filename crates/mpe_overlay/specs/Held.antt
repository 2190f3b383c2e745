-- The segments that a view of one program holds.
use Rattle.std.specs.Prelude.{ℕ, nat_lt, List, Option, None, option_map, if◌then◌else◌}
use Rattle.mpe_regions.specs.Area.{Area, region_of}
use Rattle.mpe_overlay.specs.Codes.{key_of}
use Rattle.mpe_overlay.specs.Holds.{words_in}
use Rattle.mpe_overlay.specs.declared.view.View.{View}

-- a segment of the program is held where it is loaded: its words are those of the area in its region
abbrev pub held_in : List ℕ → Area → ℕ → ℕ → Option (List ℕ)
held_in words a program seg = if nat_lt seg 256 then option_map (words_in words) (region_of (key_of program seg) a.list) else None

-- what a view holds, by the numbers of segments
abbrev pub held_by : View → ℕ → Option (List ℕ)
held_by v = held_in v.area.now.items v.regions.now.area v.program
