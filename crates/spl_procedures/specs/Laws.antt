-- The laws of this crate.
use Rattle.std.specs.Prelude.{◌≡◌, ℕ, ◌+◌, ◌-◌, ◌≤◌, ◌<◌, false, List, []}
use Rattle.hp_call_yields.specs.hp_instr.declared.instruction.Instr.TheVariants as i
use Rattle.hp_call_yields.specs.hp_session.State.{Machine}
use Rattle.spl_grants.specs.spl_meaning.References.{Setting}
use Rattle.spl_grants.specs.spl_meaning.Names.{Table, profile_of}
use Rattle.spl_grants.specs.spl_meaning.Tables.{Routine}
use Rattle.spl_grants.specs.spl_meaning.Places.{Place}
use Rattle.spl_grants.specs.spl_meaning.Pending.{formals_words}
use Rattle.spl_grants.specs.spl_meaning.Bodies.{Body, procedure_body}
use Rattle.spl_grants.specs.spl_meaning.Runs.{enter_procedure}
use Rattle.spl_grants.specs.spl_meaning.States.{State, Begun}
use Rattle.spl_grants.specs.spl_meaning.Values.{Callee}
use Rattle.hp_call_yields.specs.spl_follow.Spots.{Spot, next_word, pos, Point, Ground}
use Rattle.hp_call_yields.specs.spl_follow.Leading.{Leads}
use Rattle.hp_call_yields.specs.spl_follow.Doing.{body, calling}
use Rattle.hp_call_yields.specs.spl_follow.Following.{Rate, tally_with, Follows, NoExit}
use Rattle.hp_call_yields.specs.spl_follow.Standing.{Sites}
use Rattle.hp_call_yields.specs.spl_follow.Calling.{Link, Calling, IsResult}
use Rattle.spl_procedures.specs.Procedures.{ProcedureFramed, IsProcedure, AreSet, ProcedureStatementsFollow}

-- A call of a procedure, from PCAL through the code at its entry and its statements to EXIT, is followed to the word behind it: its result
-- stands there in place of the parameters. It is charged its own word and a step of the run, which pays for the code around the statements.
abbrev pub ProceduresAreCalled : Type 0
ProceduresAreCalled = (g : Ground) (w : Rate) (sites : Sites) (b : Body) (start first leave end : Spot) (call : Callee) (d : ℕ)
    → ProcedureFramed g w sites b start first leave end → IsProcedure b → AreSet g w sites b → ProcedureStatementsFollow g w b call d first leave
    → (st : Setting) (x : Link) (p : Point) (r : Spot) (k : ℕ) (vs : List ℕ) (s : State) (l : List Begun) (m : Machine)
    → st.split ≡ false → x.by ≡ i.Control 0 0 → x.profile ≡ b.profile → Leads g p r (calling x.by (body start) r) → r ≡ next_word p.at
    → Calling g st x p k vs s l m → s.left ≤ d
    → Follows g w (pos r - pos p.at + w.step) 0 w.reach (tally_with l s) m (IsResult st r b.profile k s.now m) NoExit (enter_procedure call d b vs k s)

-- where a body has neither cells nor initial values, none are to be set
abbrev pub NoneAreSet : Type 0
NoneAreSet = (g : Ground) (w : Rate) (sites : Sites) (b : Body) → b.cells ≡ [] → b.initials ≡ [] → AreSet g w sites b

-- what is asked of a procedure's body is so of the body of a routine whose parameters have fewer than 256 words
abbrev pub RoutinesAreProcedures : Type 0
RoutinesAreProcedures = (globals : Table Place) (own own_arrays : ℕ) (r : Routine) → formals_words (profile_of r.heading).formals < 256
    → IsProcedure (procedure_body globals own own_arrays r)
