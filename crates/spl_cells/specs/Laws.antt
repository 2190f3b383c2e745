-- The laws of this crate.
use Rattle.std.specs.Prelude.{◌≡◌, ℕ, ◌+◌, ◌-◌, ◌≤◌, true, false, List}
use Rattle.spl_procedures.specs.hp_instr.declared.instruction.Instr.TheVariants as i
use Rattle.spl_procedures.specs.hp_session.State.{Machine}
use Rattle.spl_procedures.specs.spl_meaning.References.{Setting}
use Rattle.spl_procedures.specs.spl_meaning.Bodies.{Body}
use Rattle.spl_procedures.specs.spl_meaning.Runs.{enter_procedure}
use Rattle.spl_procedures.specs.spl_meaning.States.{State, Begun}
use Rattle.spl_procedures.specs.spl_meaning.Values.{Callee}
use Rattle.spl_procedures.specs.spl_follow.Spots.{Spot, next_word, pos, Point, Ground}
use Rattle.spl_procedures.specs.spl_follow.Leading.{Leads}
use Rattle.spl_procedures.specs.spl_follow.Doing.{body, calling}
use Rattle.spl_procedures.specs.spl_follow.Following.{Rate, tally_with, Follows, NoExit}
use Rattle.spl_procedures.specs.spl_follow.Standing.{Sites}
use Rattle.spl_procedures.specs.spl_follow.Calling.{Link, Calling, IsResult}
use Rattle.spl_procedures.specs.Procedures.{ProcedureFramed, IsProcedure, AreSet, ProcedureStatementsFollow}
use Rattle.spl_cells.specs.Settable.{are_settable}

-- Cells of local arrays and of views, and initial values of simple items, are set by their code as the run sets them, wherever it stands.
abbrev pub SettableAreSet : Type 0
SettableAreSet = (g : Ground) (w : Rate) (sites : Sites) (b : Body) → are_settable b ≡ true → AreSet g w sites b

-- So a call of a procedure that has such ones does in the machine what it does in the run.
abbrev pub SettableProceduresAreCalled : Type 0
SettableProceduresAreCalled = (g : Ground) (w : Rate) (sites : Sites) (b : Body) (start first leave end : Spot) (call : Callee) (d : ℕ)
    → ProcedureFramed g w sites b start first leave end → IsProcedure b → are_settable b ≡ true → ProcedureStatementsFollow g w b call d first leave
    → (st : Setting) (x : Link) (p : Point) (r : Spot) (k : ℕ) (vs : List ℕ) (s : State) (l : List Begun) (m : Machine)
    → st.split ≡ false → x.by ≡ i.Control 0 0 → x.profile ≡ b.profile → Leads g p r (calling x.by (body start) r) → r ≡ next_word p.at
    → Calling g st x p k vs s l m → s.left ≤ d
    → Follows g w (pos r - pos p.at + w.step) 0 w.reach (tally_with l s) m (IsResult st r b.profile k s.now m) NoExit (enter_procedure call d b vs k s)
