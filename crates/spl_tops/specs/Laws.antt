-- The laws of this crate: values that are stored in names at places that are seen, each over its parts as variables.
use Rattle.std.specs.Prelude.{◌≡◌, ℕ, ◌≤◌, Bool, true, false, List, Some}
use Rattle.spl_doubles.specs.spl_tree.declared.names_and_places.At.{At}
use Rattle.spl_doubles.specs.spl_tree.declared.expressions.Kind.{Kind}
use Rattle.spl_doubles.specs.spl_tree.declared.expressions.Kind.TheVariants as kind
use Rattle.spl_doubles.specs.spl_branch.declared.pieces.Piece.TheVariants.{Begin}
use Rattle.spl_doubles.specs.spl_meaning.Kinds.{width}
use Rattle.spl_doubles.specs.spl_meaning.Operations.{kept}
use Rattle.spl_doubles.specs.spl_meaning.Places.{Place}
use Rattle.spl_doubles.specs.spl_meaning.References.{its_own, address_of, variable_located, led_located, store}
use Rattle.spl_doubles.specs.spl_meaning.States.{State, Outcome, then_go, stopping}
use Rattle.spl_doubles.specs.spl_code.Code.{as_value}
use Rattle.spl_doubles.specs.spl_code.Operands.{mode_of}
use Rattle.spl_doubles.specs.spl_code.Stores.{from_top, stored, cell_stored}
use Rattle.spl_doubles.specs.spl_code.Parts.{Part, pieces, piece, nothing, ◌⨟◌}
use Rattle.spl_doubles.specs.spl_follow.Simulating.{Surroundings, Simulates, Performs}
use Rattle.spl_doubles.specs.spl_values.Reached.{IsWhole}
use Rattle.spl_tops.specs.Seen.{is_seen}

-- A value of one word is stored in a variable at a place that is seen. The value has moved the top away from where its place was counted, so that X
-- takes the mode back.
abbrev pub OwnWordsPut : Type 0
OwnWordsPut = (z : Surroundings) (d k need number : ℕ) (at : At) (t : Kind) (place : Place) (a : Part) (value : State → Outcome (List ℕ))
    → width t ≡ 1 → is_seen z.setting k place ≡ true → 1 ≤ need → IsWhole a → Simulates z d as_value 1 k need a value
    → Performs z d k need (piece (Begin at) ⨟ (nothing ⨟ a ⨟ pieces (stored (its_own t) false k place)))
    (λ s. stopping number at s (λ u. then_go (value u) (λ vs v. store (variable_located t (address_of place v.now)) (kept t vs) v)))

-- and a DOUBLE
abbrev pub DoublesPut : Type 0
DoublesPut = (z : Surroundings) (d k need number : ℕ) (at : At) (place : Place) (a : Part) (value : State → Outcome (List ℕ))
    → is_seen z.setting k place ≡ true → 2 ≤ need → IsWhole a → Simulates z d as_value 2 k need a value
    → Performs z d k need (piece (Begin at) ⨟ (nothing ⨟ a ⨟ pieces (stored (its_own kind.Double) false k place)))
    (λ s. stopping number at s (λ u. then_go (value u) (λ vs v. store (variable_located kind.Double (address_of place v.now)) vs v)))

-- A value of one word is stored through the word at such a place. Where that is counted from the top, it is brought below the value first.
abbrev pub CellsPut : Type 0
CellsPut = (z : Surroundings) (d k need number : ℕ) (at : At) (far : Bool) (t : Kind) (place : Place) (a : Part) (value : State → Outcome (List ℕ))
    → width t ≡ 1 → is_seen z.setting k place ≡ true → far ≡ z.setting.split → 2 ≤ need → IsWhole a → Simulates z d as_value 1 k need a value
    → Performs z d k need (piece (Begin at) ⨟ (nothing ⨟ a ⨟ pieces (cell_stored t (from_top place) (mode_of k place))))
    (λ s. stopping number at s (λ u. then_go (value u) (λ vs v. then_go (led_located far t (Some place) 0 v) (λ p x. store p (kept p.kind vs) x))))
