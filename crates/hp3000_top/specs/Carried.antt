-- What is said of every program: it carries its units, and its sessions follow the run of these, alone.
use Rattle.std.specs.Prelude.{ℕ, ◌≡◌, nat_lt, Bool, false, List, slice_get, Some}
use Rattle.hp_program.specs.declared.program.Program.{Program}
use Rattle.spl_program.specs.spl_meaning.Tables.{Source}
use Rattle.spl_program.specs.spl_meaning.Runs as runs
use Rattle.spl_program.specs.spl_meaning.Runs.{alone, is_lost, stray}
use Rattle.spl_numbered.specs.spl_carries.Carries.{IsPrefix, flat_point, Carries}
use Rattle.job_gen.specs.job_text.States.{TextValue, SeatValue}
use Rattle.job_runs.specs.mpe_worlds.Worlds.{Run}
use Rattle.spl_program.specs.Programs.{IsProgram}

-- a number is a byte
abbrev pub is_byte : ℕ → Bool
is_byte b = nat_lt b 256

-- No run of these units, at any seat, comes to what has no meaning. So one that strays does so at a reference: to a word that is no data word.
abbrev pub AreNeverLost : List Source → Type 0
AreNeverLost us = (seat : runs.Seat) (n : ℕ) → is_lost us seat n ≡ false

-- Programs made of texts, each at its text's place, carry the units that these are, which are never lost. So for every seat the machine follows the
-- source's run, and that run comes to wherever the machine does.
abbrev pub CarryTheirs : List TextValue → List Program → Type 0
CarryTheirs texts made =
    (k : ℕ) (t : TextValue) (p : Program) → slice_get texts k ≡ Some t → slice_get made k ≡ Some p → (us : List Source) → IsProgram t.units us → Carries p us × AreNeverLost us

-- what the run of units alone is given where a session has this seat
abbrev pub units_seat : SeatValue → runs.Seat
units_seat s = record { stack = s.stack; extra = s.extra; room = s.room; lines = s.lines }

-- The session has printed what the units, run alone, have printed after some number of their steps, and stands as that run stands there. Or that run
-- strays, at a reference, and what it has printed there is the front of what the session has.
pub data FollowsUnits (us : List Source) (seat : SeatValue) (r : Run) : Type 0 where
  follows : (n : ℕ) → alone us (units_seat seat) n ≡ flat_point r.machine → FollowsUnits us seat r
  strayed : (n : ℕ) → (alone us (units_seat seat) n).standing ≡ stray → is_lost us (units_seat seat) n ≡ false
      → IsPrefix (alone us (units_seat seat) n).printed r.machine.printed → FollowsUnits us seat r
