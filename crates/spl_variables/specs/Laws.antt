-- The laws of this crate: variables of any kind by their own words, read and stored.
use Rattle.std.specs.Prelude.{◌≡◌, ℕ, ◌≤◌, true, false, List}
use Rattle.spl_operands.specs.spl_tree.declared.expressions.Kind.{Kind}
use Rattle.spl_operands.specs.spl_tree.declared.names_and_places.At.{At}
use Rattle.spl_operands.specs.spl_branch.declared.pieces.Piece.TheVariants.{Begin}
use Rattle.spl_operands.specs.spl_meaning.Kinds.{width}
use Rattle.spl_operands.specs.spl_meaning.Operations.{kept}
use Rattle.spl_operands.specs.spl_meaning.Places.{Place}
use Rattle.spl_operands.specs.spl_meaning.References.{its_own, address_of, variable_located, read, store}
use Rattle.spl_operands.specs.spl_meaning.States.{State, Outcome, then_go, stopping}
use Rattle.spl_operands.specs.spl_code.Code.{as_value}
use Rattle.spl_operands.specs.spl_code.Operands.{mode_of, loaded}
use Rattle.spl_operands.specs.spl_code.Parts.{Part, pieces, piece, nothing, ◌⨟◌}
use Rattle.spl_operands.specs.spl_code.Stores.{stored}
use Rattle.spl_operands.specs.spl_follow.Simulating.{Surroundings, Simulates, Performs}
use Rattle.spl_operands.specs.spl_values.Reached.{is_reached, is_seen, IsWhole}

-- A variable at a place that is seen: its word, the left half of that for a BYTE, or both words of a DOUBLE. Where one is no data word the run
-- strays, and past STACK both trap.
abbrev pub OwnWordsSimulate : Type 0
OwnWordsSimulate = (z : Surroundings) (d k need : ℕ) (t : Kind) (place : Place) → is_seen z.setting k place ≡ true → width t ≤ need
    → Simulates z d as_value (width t) k need (pieces (loaded (its_own t) false (mode_of k place)))
    (λ s. read (variable_located t (address_of place s.now)) s)

-- A value of one word is stored in one at a place that is reached: of a BYTE's word the right half stays.
abbrev pub OwnWordsAssigned : Type 0
OwnWordsAssigned = (z : Surroundings) (d k need number : ℕ) (at : At) (t : Kind) (place : Place) (a : Part) (value : State → Outcome (List ℕ))
    → width t ≡ 1 → is_reached z.setting k place ≡ true → 1 ≤ need → IsWhole a → Simulates z d as_value 1 k need a value
    → Performs z d k need (piece (Begin at) ⨟ (nothing ⨟ a ⨟ pieces (stored (its_own t) false k place)))
    (λ s. stopping number at s (λ u. then_go (value u) (λ vs v. store (variable_located t (address_of place v.now)) (kept t vs) v)))
