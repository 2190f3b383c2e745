-- What a monitor stands for: sessions of the flat machine, each with its counts, the code area, and what is counted of all.
use Rattle.std.specs.Prelude.{ℕ, List, [], slice_get, unwrap_or}
use Rattle.hp_cpu.specs.hp_rows.Numbers.{Numbers}
use Rattle.hp_cpu.specs.hp_session.State.{Machine}
use Rattle.mpe_overlay.specs.mpe_regions.Area.{Area}

-- a session of a world
pub record Run : Type 0 where
  -- the number of its program
  pub program : ℕ
  -- where the flat machine stands that runs it
  pub machine : Machine
  -- how many steps it has made
  pub steps : ℕ
  -- SR, fills and spills
  pub numbers : Numbers

-- a world
pub record World : Type 0 where
  -- the sessions, by number
  pub runs : List Run
  -- which segments are loaded, where, and in which order they were used
  pub area : Area
  -- how many turns there were, and how many segments were loaded in them
  pub turns : ℕ
  pub loads : ℕ
  -- the number of the session that had the last turn; 255, which is above every session's number, before the first
  pub last : ℕ

-- the segments of a program among those of all
abbrev pub segments_at : List (List (List ℕ)) → ℕ → List (List ℕ)
segments_at codes program = unwrap_or (slice_get codes program) []
