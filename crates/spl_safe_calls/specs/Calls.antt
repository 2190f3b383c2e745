-- Calls that are never lost, and bodies that are ready to be called: what they call is found, and none is lost whose calls are not.
use Rattle.std.specs.Prelude.{◌≡◌, ℕ, Bool, true, false, List, [], Some, is_some}
use Rattle.spl_frames.specs.Sizes.{CallsFit}
use Rattle.spl_safe_statements.specs.spl_meaning.Bodies.{Body, Named, subroutine_body, body_named}
use Rattle.spl_safe_statements.specs.spl_meaning.Names as n
use Rattle.spl_safe_statements.specs.spl_meaning.Names.{Names, Profile, profile_of}
use Rattle.spl_safe_statements.specs.spl_meaning.Pending.{result_words}
use Rattle.spl_safe_statements.specs.spl_meaning.Runs.{run_statement}
use Rattle.spl_safe_statements.specs.spl_meaning.States.{State, Outcome}
use Rattle.spl_safe_statements.specs.spl_meaning.Statements.{run_body}
use Rattle.spl_safe_statements.specs.spl_meaning.Tables.{Subroutine, subroutine_named}
use Rattle.spl_safe_statements.specs.spl_meaning.Values.{Who, procedure, subroutine, Callee, a_call, sense_of}
use Rattle.spl_safe_statements.specs.Safe.{Keeps, Any, NoWay, Ways}

-- Calls of those who may be called are never lost, and calls give as many words as the results have of what names stand for.
pub record CallsAreSafe (may : Who → Bool) (names : Names) (call : Callee) : Type 0 where
  pub safe : (x : List ℕ) (who : Who) (p : Profile) → sense_of x (names x) ≡ a_call who p → may who ≡ true → (ws : List ℕ) (k : ℕ)
      → Keeps false false Any NoWay (λ s. call who ws k s)
  pub fit : CallsFit names call

-- A body that stands in a frame (its own, or that of the body whose subroutine it is): the procedures that it may call are known and there, and so are the
-- subroutines; their headings have results of as many words; and its statements, by `what`, are not lost where its calls are not.
pub record IsReady (Known : List ℕ → Type 0) (procedures : List Named) (may : Who → Bool) (frame b : Body)
    (what : Callee → ℕ → State → Outcome (Unit {0})) : Type 0 where
  pub known : (x : List ℕ) (p : Profile) → b.here.names x ≡ Some (n.procedure p) → may (procedure x) ≡ true → Known x
  pub found : (x : List ℕ) (p : Profile) → b.here.names x ≡ Some (n.procedure p) → may (procedure x) ≡ true → is_some (body_named procedures x) ≡ true
  pub found_inner : (x : List ℕ) (p : Profile) → b.here.names x ≡ Some (n.subroutine p) → may (subroutine x) ≡ true
      → is_some (subroutine_named frame.subroutines x) ≡ true
  pub alike : (x : List ℕ) (p : Profile) → b.here.names x ≡ Some (n.procedure p) → (c : Body) → body_named procedures x ≡ Some c
      → result_words c.profile ≡ result_words p
  pub alike_inner : (x : List ℕ) (p : Profile) → b.here.names x ≡ Some (n.subroutine p) → (z : Subroutine) → subroutine_named frame.subroutines x ≡ Some z
      → result_words (profile_of z.heading) ≡ result_words p
  pub runs : (call : Callee) (d : ℕ) → CallsAreSafe may b.here.names call → Keeps false false Any (Ways true []) (λ s. what call d s)

-- what the statements of a body do
abbrev pub body_done : Body → Callee → ℕ → State → Outcome (Unit {0})
body_done b call d s = run_body b.here call d b.number b.statements s

-- A procedure or a main body is ready, and so are those of its subroutines that may be called in it.
pub record FrameIsReady (Known : List ℕ → Type 0) (procedures : List Named) (b : Body) : Type 0 where
  pub may : Who → Bool
  pub own : IsReady Known procedures may b b (body_done b)
  pub inners : (x : List ℕ) (z : Subroutine) → may (subroutine x) ≡ true → subroutine_named b.subroutines x ≡ Some z
      → IsReady Known procedures may b (subroutine_body b z) (run_statement (subroutine_body b z))

-- so are all procedures whose names are known
abbrev pub AreReady : (List ℕ → Type 0) → List Named → Type 0
AreReady Known procedures = (x : List ℕ) (c : Body) → Known x → body_named procedures x ≡ Some c → FrameIsReady Known procedures c
