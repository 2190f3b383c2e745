-- The laws of this crate: MOVE of strings, MOVE WHILE and SCAN, over the code of their operands.
use Rattle.std.specs.Prelude.{ℕ, suc, ◌+◌, ◌%◌, ◌<◌, ◌≤◌, Bool, true, false, List}
use Rattle.spl_moves.specs.spl_tree.declared.expressions.Kind.{Kind}
use Rattle.spl_moves.specs.spl_tree.declared.names_and_places.At.{At}
use Rattle.spl_moves.specs.spl_branch.declared.pieces.Piece.TheVariants.{Begin}
use Rattle.spl_moves.specs.spl_meaning.Elements.{with_one, moved_text, moved_while, scanned}
use Rattle.spl_moves.specs.spl_meaning.References.{Located}
use Rattle.spl_moves.specs.spl_meaning.States.{State, Outcome, then_go, stopping}
use Rattle.spl_moves.specs.spl_meaning.Statements.{value_dropped, moved_far}
use Rattle.spl_moves.specs.spl_code.Code.{as_value}
use Rattle.spl_moves.specs.spl_code.Constants.{constant, text_offset}
use Rattle.spl_moves.specs.spl_code.Parts.{Part, pieces, piece, ◌⨟◌}
use Rattle.spl_moves.specs.spl_statement_code.Effects.{kept_first, told, move_of, text_scaled, text_count, class_letters, scan_of}
use Rattle.spl_moves.specs.spl_statement_code.Instructions.{MVBW}
use Rattle.spl_moves.specs.spl_frames.Words.{AllOf}
use Rattle.spl_moves.specs.spl_follow.Simulating.{Surroundings, Simulates, Performs}
use Rattle.spl_moves.specs.spl_values.Reached.{IsWhole}
use Rattle.spl_moves.specs.Moving.{IsReference, Answers}
use Rattle.spl_moves.specs.Laws.{AreUnits}

-- a string is of bytes
abbrev pub AreBytes : List ℕ → Type 0
AreBytes text = AllOf (λ b. b < 256) text

-- the code that moves a string
abbrev pub text_moved : Bool → List ℕ → Part
text_moved bytes text = text_offset text ⨟ pieces (text_scaled bytes) ⨟ pieces (constant (text_count bytes text % 65536)) ⨟ piece (move_of bytes 1)

-- MOVE of a string, which lies in the code.
abbrev pub TextMovesPerform : Type 0
TextMovesPerform = (z : Surroundings) (d k need number : ℕ) (at : At) (bytes : Bool) (t : Kind) (a : Part) (to : State → Outcome Located) (text : List ℕ)
    → AreUnits bytes t → AreBytes text → IsReference z d k need t a to → 3 ≤ need
    → Performs z d k need
    (piece (Begin at) ⨟ (a ⨟ pieces (kept_first false) ⨟ (text_moved bytes text) ⨟ pieces (told false)))
    (λ s. stopping number at s (λ u. value_dropped (then_go (to u) (λ p v. moved_far p (moved_text text p v)))))

-- MOVE of bytes WHILE these are of a class.
abbrev pub ClassMovesPerform : Type 0
ClassMovesPerform = (z : Surroundings) (d k need more number : ℕ) (at : At) (t o : Kind) (class : ℕ) (a b : Part) (to from : State → Outcome Located)
    → AreUnits true t → AreUnits true o → IsReference z d k need t a to → IsReference z d (k + 1) more o b from → more + 1 ≤ need → 2 ≤ need
    → Performs z d k need
    (piece (Begin at) ⨟ (a ⨟ pieces (kept_first false) ⨟ (b ⨟ piece (MVBW (class_letters class))) ⨟ pieces (told false)))
    (λ s. stopping number at s (λ u. value_dropped (then_go (to u) (λ p v. then_go (from v) (λ q x. moved_far p (moved_while (suc d) class p q x))))))

-- SCAN of bytes, by a test word.
abbrev pub ScansPerform : Type 0
ScansPerform = (z : Surroundings) (d k need more number : ℕ) (at : At) (t : Kind) (until : Bool) (a b : Part) (from : State → Outcome Located)
    (value : State → Outcome (List ℕ)) → AreUnits true t → IsReference z d k need t a from → IsWhole b → Simulates z d as_value 1 (k + 1) more b value
    → more + 1 ≤ need → 2 ≤ need
    → Performs z d k need
    (piece (Begin at) ⨟ (a ⨟ pieces (kept_first false) ⨟ b ⨟ piece (scan_of until) ⨟ pieces (told false)))
    (λ s. stopping number at s (λ u. value_dropped (then_go (from u) (λ p v. then_go (value v) (λ vs x.
    with_one vs x (λ w y. moved_far p (scanned (suc d) until w p y)))))))

-- ---- answers

-- The same as values: the first address is kept below, and the answer is the end address less that, modulo 65,536.
abbrev pub TextMovesAnswer : Type 0
TextMovesAnswer = (z : Surroundings) (d k need : ℕ) (bytes : Bool) (t : Kind) (a : Part) (to : State → Outcome Located) (text : List ℕ) → AreUnits bytes t
    → AreBytes text → IsReference z d k need t a to → 4 ≤ need
    → Answers z d k need (a ⨟ pieces (kept_first true) ⨟ (text_moved bytes text) ⨟ pieces (told true))
    (λ s. then_go (to s) (λ p v. moved_far p (moved_text text p v)))

abbrev pub ClassMovesAnswer : Type 0
ClassMovesAnswer = (z : Surroundings) (d k need more : ℕ) (t o : Kind) (class : ℕ) (a b : Part) (to from : State → Outcome Located) → AreUnits true t
    → AreUnits true o → IsReference z d k need t a to → IsReference z d (k + 2) more o b from → more + 2 ≤ need → 3 ≤ need
    → Answers z d k need (a ⨟ pieces (kept_first true) ⨟ (b ⨟ piece (MVBW (class_letters class))) ⨟ pieces (told true))
    (λ s. then_go (to s) (λ p v. then_go (from v) (λ q x. moved_far p (moved_while (suc d) class p q x))))

abbrev pub ScansAnswer : Type 0
ScansAnswer = (z : Surroundings) (d k need more : ℕ) (t : Kind) (until : Bool) (a b : Part) (from : State → Outcome Located)
    (value : State → Outcome (List ℕ)) → AreUnits true t → IsReference z d k need t a from → IsWhole b → Simulates z d as_value 1 (k + 2) more b value
    → more + 2 ≤ need → 3 ≤ need
    → Answers z d k need (a ⨟ pieces (kept_first true) ⨟ b ⨟ piece (scan_of until) ⨟ pieces (told true))
    (λ s. then_go (from s) (λ p v. then_go (value v) (λ vs x. with_one vs x (λ w y. moved_far p (scanned (suc d) until w p y)))))
