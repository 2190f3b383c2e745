-- The laws of this crate.
use Rattle.std.specs.Prelude.{◌≡◌, ℕ, ◌+◌, ◌-◌, ◌≤◌, ◌<◌, List}
use Rattle.spl_procedures.specs.hp_instr.declared.instruction.Instr.TheVariants as i
use Rattle.spl_procedures.specs.hp_session.State.{Machine}
use Rattle.spl_procedures.specs.spl_meaning.References.{Setting}
use Rattle.spl_procedures.specs.spl_meaning.Names.{profile_of}
use Rattle.spl_procedures.specs.spl_meaning.Tables.{Subroutine}
use Rattle.spl_procedures.specs.spl_meaning.Pending.{formals_words}
use Rattle.spl_procedures.specs.spl_meaning.Bodies.{Body, subroutine_body}
use Rattle.spl_procedures.specs.spl_meaning.Runs.{enter_subroutine}
use Rattle.spl_procedures.specs.spl_meaning.States.{State, Begun}
use Rattle.spl_procedures.specs.spl_meaning.Values.{Callee}
use Rattle.spl_procedures.specs.spl_follow.Spots.{Spot, next_word, pos, Point, Ground}
use Rattle.spl_procedures.specs.spl_follow.Leading.{Leads}
use Rattle.spl_procedures.specs.spl_follow.Doing.{body, calling}
use Rattle.spl_procedures.specs.spl_follow.Following.{Rate, tally_with, Follows, NoExit}
use Rattle.spl_procedures.specs.spl_follow.Standing.{Sites}
use Rattle.spl_procedures.specs.spl_follow.Calling.{Link, Calling, IsResult}
use Rattle.spl_subroutines.specs.Subroutines.{SubroutineFramed, subroutine_setting, IsSubroutine, SubroutineStatementsFollow}

-- A call of a subroutine, from SCAL through the room granted at its entry and its statement to SXIT, is followed to the word behind it: its result
-- stands there in place of the parameters. The caller may be in either mode, and in a body or in a subroutine of the same frame. It is charged its
-- own word and a step of the run, which pays for the code around the statement.
abbrev pub SubroutinesAreCalled : Type 0
SubroutinesAreCalled = (g : Ground) (w : Rate) (sites : Sites) (b : Body) (start first leave end : Spot) (call : Callee) (d : ℕ)
    → SubroutineFramed g w sites b start first leave end → IsSubroutine b → SubroutineStatementsFollow g w b call d first leave
    → (st : Setting) (x : Link) (p : Point) (r : Spot) (k : ℕ) (vs : List ℕ) (s : State) (l : List Begun) (m : Machine)
    → b.here.setting ≡ subroutine_setting st b.profile → x.by ≡ i.Control 3 0 → x.profile ≡ b.profile → Leads g p r (calling x.by (body start) r)
    → r ≡ next_word p.at → Calling g st x p k vs s l m → s.left ≤ d
    → Follows g w (pos r - pos p.at + w.step) 0 w.reach (tally_with l s) m (IsResult st r b.profile k s.now m) NoExit (enter_subroutine call d b vs k s)

-- what is asked of a subroutine's body is so of each subroutine whose parameters have fewer than 256 words
abbrev pub SubroutineBodiesAreSubroutines : Type 0
SubroutineBodiesAreSubroutines = (b : Body) (y : Subroutine) → formals_words (profile_of y.heading).formals < 256 → IsSubroutine (subroutine_body b y)
