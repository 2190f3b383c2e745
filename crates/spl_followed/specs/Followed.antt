-- A program whose session follows the run of its units, and what is said of what the session meets.
use Rattle.std.specs.Prelude.{◌≡◌, ℕ, ◌+◌, ◌≤◌, List, []}
use Rattle.spl_carries.specs.hp_program.declared.program.Program.{Program}
use Rattle.spl_carries.specs.hp_program.Programs.{segments_of}
use Rattle.spl_carries.specs.hp_session.State.{Machine, opened}
use Rattle.spl_carries.specs.hp_flat.Views.{start_of}
use Rattle.spl_carries.specs.spl_meaning.Tables.{Source}
use Rattle.spl_carries.specs.spl_meaning.Runs.{Seat, alone, begins, stray}
use Rattle.spl_carries.specs.Carries.{weight}
use Rattle.spl_follow.specs.Spots.{Ground, visits}
use Rattle.spl_follow.specs.Following.{Rate, Logged}
use Rattle.spl_follow.specs.Programs.{ProgramFollows}

-- the program's session as it opens
abbrev pub start : Program → Seat → Machine
start p seat = opened p.globals.items p.main (start_of p) seat.lines seat.stack seat.extra seat.room

-- From its opening a program's session follows the units' run, whatever number of steps that has. One step of the run pays for no more of the
-- machine than the program's weight, with what is charged to the opening.
pub record Followed (p : Program) (us : List Source) (seat : Seat) : Type 0 where
  pub ground : Ground
  pub segments : ground.segments ≡ segments_of p
  pub rate : Rate
  pub charge : ℕ
  pub lag : ℕ
  pub light : rate.step + charge ≤ weight p
  pub follows : ProgramFollows ground rate charge lag us seat (start p seat)

-- What the session meets within so many steps is what the run begins within some number of its own. Or the run strays, and what the session
-- met within fewer steps is what the run had begun there.
pub data Meets (p : Program) (us : List Source) (seat : Seat) (g : Ground) (steps : ℕ) : Type 0 where
  meets : (at : ℕ) → Logged [] (visits g steps (start p seat)) (begins us seat at) → Meets p us seat g steps
  strayed : (at early : ℕ) → (alone us seat at).standing ≡ stray → early ≤ steps → Logged [] (visits g early (start p seat)) (begins us seat at)
      → Meets p us seat g steps

-- what the run begins within so many steps is what the session meets within some number of its own
pub record IsMet (p : Program) (us : List Source) (seat : Seat) (g : Ground) (at : ℕ) : Type 0 where
  pub steps : ℕ
  pub met : Logged [] (visits g steps (start p seat)) (begins us seat at)
