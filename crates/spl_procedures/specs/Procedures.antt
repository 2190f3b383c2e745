-- What the code of a procedure does around its statements, and what is asked of the procedure and of its caller.
use Rattle.std.specs.Prelude.{◌≡◌, ℕ, ◌+◌, ◌-◌, ◌≤◌, ◌<◌, Bool, true, false, is_some, ◌++◌, None}
use Rattle.hp_call_yields.specs.hp_session.State.{Machine}
use Rattle.spl_grants.specs.spl_meaning.Names.{Profile}
use Rattle.spl_grants.specs.spl_meaning.Pending.{formals_words}
use Rattle.spl_grants.specs.spl_meaning.References.{Setting}
use Rattle.spl_grants.specs.spl_meaning.Statements.{run_body}
use Rattle.spl_grants.specs.spl_meaning.Bodies.{Body, words_below}
use Rattle.spl_grants.specs.spl_meaning.Runs as run
use Rattle.spl_grants.specs.spl_meaning.States.{Data, State, done}
use Rattle.spl_grants.specs.spl_meaning.Values.{Callee}
use Rattle.spl_grants.specs.spl_body_code.Bodies.{frame_of, procedure_entered, procedure_left}
use Rattle.spl_grants.specs.spl_body_code.Cells.{cells_set, initials_set}
use Rattle.hp_call_yields.specs.spl_follow.Spots.{Spot, spot, pos, on, Ground}
use Rattle.hp_call_yields.specs.spl_follow.Matching.{Matched}
use Rattle.hp_call_yields.specs.spl_follow.Following.{Rate, tally, Follows, NoExit}
use Rattle.hp_call_yields.specs.spl_follow.Standing.{Sites, Stands}
use Rattle.hp_call_yields.specs.spl_follow.Parts.{Begins, Completes, Returning}

-- ---- the code around the statements

-- What makes the frame of a procedure and leaves it, by where its code stands: from start, its entry, to first; from leave to end. A procedure
-- is entered at a word. A step of the run pays for both stretches; and a step of the machine lets so many of the run pass that its local words
-- can become zero meanwhile.
pub record ProcedureFramed (g : Ground) (w : Rate) (sites : Sites) (b : Body) (start first leave end : Spot) : Type 0 where
  pub entered : Stands g sites (on start) (procedure_entered (frame_of b)) first
  pub left : Stands g sites (on leave) (procedure_left b.here.setting.split (formals_words b.profile.formals)) end
  pub whole : start.right ≡ false
  pub near : pos end ≤ w.step
  pub order : pos first ≤ pos leave
  pub reach : b.words + 8 ≤ w.reach

-- ---- the procedure

-- the setting of a procedure's body, in split mode or not
abbrev pub procedure_setting : Bool → Profile → Setting
procedure_setting split p = record { split = split; inside = false; below = words_below p; held = 0 }

-- What is known of a procedure's body: it stands in no subroutine, the words of its parameters fit into the instruction that leaves it, and its
-- depth is that of a body.
pub record IsProcedure (b : Body) : Type 0 where
  pub setting : b.here.setting ≡ procedure_setting b.here.setting.split b.profile
  pub few : formals_words b.profile.formals < 256
  pub deep : 8 ≤ b.depth'

-- data in whose live frame the local words of a body, which stand above the base, are data words
pub record HasLocals (b : Body) (d : Data) : Type 0 where
  pub top : d.top ≡ d.base + 1 + b.words
  pub there : (a : ℕ) → d.base < a → a < d.top → is_some (d.mem a) ≡ true

-- From p to q the code does to a body's new frame what the run does: cells and initial values are set, above the frame is as much room as a
-- body has at least, and no mode is entered yet.
abbrev pub Sets : Ground → Rate → Body → Spot → Spot → Type 0
Sets g w b p q =
    (s : State) (m : Machine) → spot m ≡ p → Matched (procedure_setting false b.profile) s.now m 0 → HasLocals b s.now → s.now.top + 8 ≤ s.now.stack
    → s.code ≡ None
    → Follows g w (pos q - pos p) 0 0 (tally s) m (Completes (procedure_setting false b.profile) q 0 s.now m) NoExit
    (done tt (record s { now = run.cells_set b s.now }))

-- the code does so wherever it stands that sets a body's cells and initial values
abbrev pub AreSet : Ground → Rate → Sites → Body → Type 0
AreSet g w sites b = (p q : Spot) → Stands g sites (on p) (cells_set b.cells ++ initials_set b.initials) q → Sets g w b p q

-- ---- its statements

-- From first to leave the machine follows the statements of a procedure, with these calls and so many of them one within another.
abbrev pub ProcedureStatementsFollow : Ground → Rate → Body → Callee → ℕ → Spot → Spot → Type 0
ProcedureStatementsFollow g w b call d first leave =
    (s : State) (m : Machine) → Begins b.here.setting d first 0 b.depth' s m
    → Follows g w 0 3 0 (tally s) m (Completes b.here.setting leave 0 s.now m) (Returning b.here.setting leave 0 s.now m)
    (run_body b.here call d b.number b.statements s)
