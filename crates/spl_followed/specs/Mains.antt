-- The main body: where its session opens, and what its code does around its statements.
use Rattle.std.specs.Prelude.{◌≡◌, ℕ, ◌-◌, ◌≤◌, false, List, Some}
use Rattle.spl_carries.specs.hp_word.declared.endings.Ending.TheVariants.{Running, Terminated}
use Rattle.spl_carries.specs.hp_program.declared.program.Program.{Program}
use Rattle.spl_carries.specs.hp_program.Programs.{segments_of}
use Rattle.spl_carries.specs.hp_session.State.{Machine}
use Rattle.spl_carries.specs.spl_meaning.Tables.{Source}
use Rattle.spl_carries.specs.spl_meaning.References.{Setting}
use Rattle.spl_carries.specs.spl_meaning.Statements.{run_body}
use Rattle.spl_carries.specs.spl_meaning.Bodies.{Body, marker_gap, program_of}
use Rattle.spl_carries.specs.spl_meaning.Runs.{Seat, calls, opening}
use Rattle.spl_carries.specs.spl_meaning.States.{State}
use Rattle.spl_carries.specs.Segments.{initial_words}
use Rattle.spl_carries.specs.Carries.{weight, MaySit}
use Rattle.spl_follow.specs.Spots.{Spot, spot, pos, on, Ground}
use Rattle.spl_follow.specs.Leading.{Leads}
use Rattle.spl_follow.specs.Matching.{Matched}
use Rattle.spl_follow.specs.Following.{Rate, tally, Follows}
use Rattle.spl_follow.specs.Parts.{Begins, Completes, Returning}
use Rattle.spl_follow.specs.Rooms.{Grants}
use Rattle.spl_follow.specs.Programs.{ProgramFollows}
use Rattle.spl_followed.specs.Followed.{start, Followed}

-- the setting of a main body
abbrev pub main_setting : Setting
main_setting = record { split = false; inside = false; below = marker_gap; held = 0 }

-- From `entry` to `first` the code of a main body grants the room that it needs; from `leave` on it ends the session's program, with nothing
-- printed. A step of the run pays for each of the two.
pub record MainFramed (g : Ground) (w : Rate) (need : ℕ) (entry first leave : Spot) : Type 0 where
  pub room : Grants g w entry first need
  pub paid : pos first - pos entry ≤ w.step
  pub behind : Spot
  pub stop : Machine → Machine
  pub ends : Leads g (on leave) behind stop
  pub stops : (m : Machine) → m.split ≡ false → m.ending ≡ Running → ((stop m).ending ≡ Terminated) × ((stop m).printed ≡ m.printed)
  pub last : pos behind - pos leave ≤ w.step

-- From `first` to `leave` the machine follows the statements of a main body of units, whatever number of calls one within another bounds it.
abbrev pub MainStatementsFollow : Ground → Rate → List Source → Body → Spot → Spot → Type 0
MainStatementsFollow g w us b first leave =
    (d : ℕ) (s : State) (m : Machine) → Begins main_setting d first 0 b.depth' s m
    → Follows g w 0 3 0 (tally s) m (Completes main_setting leave 0 s.now m) (Returning main_setting leave 0 s.now m)
    (run_body b.here (calls (program_of us).procedures d b) d b.number b.statements s)

-- ---- laws

-- a session opens as its run does
abbrev pub SessionsOpenAsRuns : Type 0
SessionsOpenAsRuns = (p : Program) (us : List Source) (seat : Seat) (n : ℕ) → p.globals.items ≡ initial_words us → MaySit us seat
    → Matched main_setting (opening (program_of us) seat n).now (start p seat) 0

-- where the statements of a main body are followed, the run of its units is, with nothing charged to the opening
abbrev pub MainBodiesFollow : Type 0
MainBodiesFollow = (g : Ground) (w : Rate) (us : List Source) (seat : Seat) (b : Body) (entry first leave : Spot) (m : Machine)
    → (program_of us).main ≡ Some b → spot m ≡ entry → ((n : ℕ) → Matched main_setting (opening (program_of us) seat n).now m 0)
    → MainFramed g w b.depth' entry first leave → MainStatementsFollow g w us b first leave → ProgramFollows g w 0 1 us seat m

-- so a program that has the units' data words, and whose main body is framed and followed at a rate within its weight, is followed
abbrev pub FramedProgramsFollow : Type 0
FramedProgramsFollow = (p : Program) (us : List Source) (seat : Seat) (g : Ground) (w : Rate) (b : Body) (entry first leave : Spot)
    → g.segments ≡ segments_of p → w.step ≤ weight p → p.globals.items ≡ initial_words us → MaySit us seat → (program_of us).main ≡ Some b
    → spot (start p seat) ≡ entry → MainFramed g w b.depth' entry first leave → MainStatementsFollow g w us b first leave → Followed p us seat
