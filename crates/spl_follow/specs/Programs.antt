-- What it means that the machine follows a program's run alone.
use Rattle.std.specs.Prelude.{ℕ, List}
use Rattle.hp_flat.specs.hp_session.State.{Machine}
use Rattle.spl_code.specs.spl_meaning.Tables.{Source}
use Rattle.spl_code.specs.spl_meaning.Bodies.{program_of}
use Rattle.spl_code.specs.spl_meaning.Runs.{Seat, opening, run_of}
use Rattle.spl_code.specs.spl_meaning.States.{State}
use Rattle.spl_follow.specs.Spots.{Ground}
use Rattle.spl_follow.specs.Following.{Rate, tally, Follows, NoExit}

-- a whole run is never done, since its end is that of the session
abbrev pub NoValue : Unit {0} → State → Machine → Type 0
NoValue u s m = ⊥

-- from m the machine follows the units' run, whatever number of steps that has
abbrev pub ProgramFollows : Ground → Rate → ℕ → ℕ → List Source → Seat → Machine → Type 0
ProgramFollows g w c lag us seat m =
    (n : ℕ) → Follows g w c lag 0 (tally (opening (program_of us) seat n)) m NoValue NoExit (run_of us seat n)
