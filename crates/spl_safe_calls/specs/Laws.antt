-- The laws of this crate.
use Rattle.std.specs.Prelude.{◌≡◌, ℕ, Bool, true, false, List, Some}
use Rattle.spl_safe_statements.specs.spl_meaning.Bodies.{Body, Named, Program}
use Rattle.spl_safe_statements.specs.spl_meaning.Runs.{Seat, calls, opening, run_program, lost_of}
use Rattle.spl_safe_calls.specs.Calls.{CallsAreSafe, FrameIsReady, AreReady}

-- Where all procedures are ready whose names are known, and so is a body, the calls in it are never lost, whatever number of calls one within another
-- that is; this is so whatever tells which names are known.
abbrev pub CallsAreNeverLostWhere : (List ℕ → Type 0) → Type 0
CallsAreNeverLostWhere Known = (procedures : List Named) → AreReady Known procedures → (d : ℕ) (b : Body) (r : FrameIsReady Known procedures b)
    → CallsAreSafe r.may b.here.names (calls procedures d b)

-- A program whose procedures and whose main body are ready is never lost.
abbrev pub ProgramsAreNeverLostWhere : (List ℕ → Type 0) → Type 0
ProgramsAreNeverLostWhere Known = (p : Program) → AreReady Known p.procedures → (b : Body) → p.main ≡ Some b → FrameIsReady Known p.procedures b
    → (seat : Seat) (n : ℕ) → lost_of (run_program p p.main n (opening p seat n)) ≡ false

-- by a test of names, say
abbrev pub CallsAreNeverLost : Type 0
CallsAreNeverLost = (known : List ℕ → Bool) → CallsAreNeverLostWhere (λ x. known x ≡ true)

abbrev pub ReadyProgramsAreNeverLost : Type 0
ReadyProgramsAreNeverLost = (known : List ℕ → Bool) → ProgramsAreNeverLostWhere (λ x. known x ≡ true)
