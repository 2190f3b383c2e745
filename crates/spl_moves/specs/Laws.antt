-- The laws of this crate: MOVE by a count, over the code of its operands.
use Rattle.std.specs.Prelude.{◌≡◌, ℕ, ◌+◌, ◌≤◌, Bool, true, false, List, Some}
use Rattle.spl_statement_code.specs.spl_tree.declared.expressions.Kind.{Kind}
use Rattle.spl_statement_code.specs.spl_tree.declared.names_and_places.At.{At}
use Rattle.spl_statement_code.specs.spl_branch.declared.pieces.Piece.TheVariants.{Begin}
use Rattle.spl_statement_code.specs.spl_meaning.Elements.{with_one, moved_by}
use Rattle.spl_statement_code.specs.spl_meaning.Kinds.{width, is_byte}
use Rattle.spl_statement_code.specs.spl_meaning.References.{Located}
use Rattle.spl_statement_code.specs.spl_meaning.States.{State, Outcome, then_go, stopping}
use Rattle.spl_statement_code.specs.spl_meaning.Statements.{value_dropped, moved_far}
use Rattle.spl_statement_code.specs.spl_code.Code.{as_value}
use Rattle.spl_statement_code.specs.spl_code.Parts.{Part, pieces, piece, ◌⨟◌}
use Rattle.spl_statement_code.specs.Effects.{kept_first, told, move_of}
use Rattle.hp_call_yields.specs.spl_follow.Simulating.{Surroundings, Simulates, Performs}
use Rattle.spl_operands.specs.spl_values.Reached.{IsWhole}
use Rattle.spl_moves.specs.Moving.{IsReference, Answers}

-- elements of a kind are bytes, or words: a double is neither
abbrev pub AreUnits : Bool → Kind → Type 0
AreUnits bytes t = (is_byte (Some t) ≡ bytes) × (width t ≡ 1)

-- MOVE by a count, of bytes or of words: upwards where the count is positive, downwards where it is negative. Each element takes a step of the run,
-- and one of the machine at the word of the move. The end address is deleted.
abbrev pub CountedMovesPerform : Type 0
CountedMovesPerform = (z : Surroundings) (d k need more most number : ℕ) (at : At) (bytes : Bool) (t o : Kind) (a b c : Part)
    (to from : State → Outcome Located) (count : State → Outcome (List ℕ)) → AreUnits bytes t → AreUnits bytes o → IsReference z d k need t a to
    → IsReference z d (k + 1) more o b from → IsWhole c → Simulates z d as_value 1 (k + 2) most c count → more + 1 ≤ need → most + 2 ≤ need → 3 ≤ need
    → Performs z d k need
    (piece (Begin at) ⨟ (a ⨟ pieces (kept_first false) ⨟ (b ⨟ c ⨟ piece (move_of bytes 0)) ⨟ pieces (told false)))
    (λ s. stopping number at s (λ u. value_dropped (then_go (to u) (λ p v. then_go (from v) (λ q x. then_go (count x) (λ vs y.
    with_one vs y (λ size h. moved_far p (moved_by size p q h))))))))

-- ---- answers

-- The same as values: the first address is kept below, and the answer is the end address less that, modulo 65,536.
abbrev pub CountedMovesAnswer : Type 0
CountedMovesAnswer = (z : Surroundings) (d k need more most : ℕ) (bytes : Bool) (t o : Kind) (a b c : Part) (to from : State → Outcome Located)
    (count : State → Outcome (List ℕ)) → AreUnits bytes t → AreUnits bytes o → IsReference z d k need t a to → IsReference z d (k + 2) more o b from
    → IsWhole c → Simulates z d as_value 1 (k + 3) most c count → more + 2 ≤ need → most + 3 ≤ need → 4 ≤ need
    → Answers z d k need (a ⨟ pieces (kept_first true) ⨟ (b ⨟ c ⨟ piece (move_of bytes 0)) ⨟ pieces (told true))
    (λ s. then_go (to s) (λ p v. then_go (from v) (λ q x. then_go (count x) (λ vs y. with_one vs y (λ size h. moved_far p (moved_by size p q h))))))
