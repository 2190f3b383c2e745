-- What the code of a subroutine does around its statement, and what is asked of the subroutine and of its caller.
use Rattle.std.specs.Prelude.{◌≡◌, ℕ, ◌≤◌, ◌<◌, true, false}
use Rattle.spl_procedures.specs.hp_session.State.{Machine}
use Rattle.spl_procedures.specs.spl_meaning.Names.{Profile}
use Rattle.spl_procedures.specs.spl_meaning.Pending.{formals_words}
use Rattle.spl_procedures.specs.spl_meaning.References.{Setting}
use Rattle.spl_procedures.specs.spl_meaning.Bodies.{Body, words_held}
use Rattle.spl_procedures.specs.spl_meaning.Runs.{run_statement}
use Rattle.spl_procedures.specs.spl_meaning.States.{State}
use Rattle.spl_procedures.specs.spl_meaning.Values.{Callee}
use Rattle.spl_procedures.specs.spl_body_code.Bodies.{subroutine_left}
use Rattle.spl_procedures.specs.spl_body_code.Frames.{granted}
use Rattle.spl_procedures.specs.spl_follow.Spots.{Spot, pos, on, Ground}
use Rattle.spl_procedures.specs.spl_follow.Following.{Rate, tally, Follows}
use Rattle.spl_procedures.specs.spl_follow.Standing.{Sites, Stands}
use Rattle.spl_procedures.specs.spl_follow.Parts.{Begins, Completes, Returning}

-- ---- the code around the statement

-- What grants the room of a subroutine and leaves it, by where its code stands: from start, its entry, to first; from leave to end. A subroutine
-- is entered at a word, and left in the segment in which it is entered. A step of the run pays for both stretches.
pub record SubroutineFramed (g : Ground) (w : Rate) (sites : Sites) (b : Body) (start first leave end : Spot) : Type 0 where
  pub entered : Stands g sites (on start) (granted b.depth') first
  pub left : Stands g sites (on leave) (subroutine_left (formals_words b.profile.formals)) end
  pub whole : start.right ≡ false
  pub beside : leave.seg ≡ start.seg
  pub near : pos end ≤ w.step
  pub order : pos first ≤ pos leave

-- ---- the subroutine

-- The setting of a subroutine's body in the frame of a caller: it has the caller's mode and base, and below its return word stand its parameters
-- and its result. The caller may be in a subroutine itself.
abbrev pub subroutine_setting : Setting → Profile → Setting
subroutine_setting st p = record { split = st.split; inside = true; below = st.below; held = words_held p }

-- What is known of a subroutine's body: the words of its parameters fit into the instruction that leaves it, and its depth is that of a body.
pub record IsSubroutine (b : Body) : Type 0 where
  pub few : formals_words b.profile.formals < 256
  pub deep : 8 ≤ b.depth'

-- ---- its statement

-- From first to leave the machine follows the statement of a subroutine, with these calls and so many of them one within another. RETURN leads to
-- leave, and a jump out of the statement leads nowhere.
abbrev pub SubroutineStatementsFollow : Ground → Rate → Body → Callee → ℕ → Spot → Spot → Type 0
SubroutineStatementsFollow g w b call d first leave =
    (s : State) (m : Machine) → Begins b.here.setting d first 0 b.depth' s m
    → Follows g w 0 3 0 (tally s) m (Completes b.here.setting leave 0 s.now m) (Returning b.here.setting leave 0 s.now m)
    (run_statement b call d s)
