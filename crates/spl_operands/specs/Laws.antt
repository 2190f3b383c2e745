-- The laws of this crate: what a name's word leads to, read and stored, each over its parts as variables.
use Rattle.std.specs.Prelude.{◌≡◌, ℕ, ◌+◌, ◌≤◌, Bool, true, false, List, [], ◌∷◌, Some}
use Rattle.spl_values.specs.spl_tree.declared.expressions.Kind.{Kind}
use Rattle.spl_values.specs.spl_tree.declared.names_and_places.At.{At}
use Rattle.spl_values.specs.spl_branch.declared.pieces.Piece.TheVariants.{Begin}
use Rattle.spl_values.specs.spl_meaning.Kinds.{width}
use Rattle.spl_values.specs.spl_meaning.Operations.{kept}
use Rattle.spl_values.specs.spl_meaning.Places.{Place}
use Rattle.spl_values.specs.spl_meaning.References.{led_located, index_or_zero, read, store}
use Rattle.spl_values.specs.spl_meaning.States.{State, Outcome, then_go, stopping}
use Rattle.spl_values.specs.spl_meaning.Values.{as_index}
use Rattle.spl_values.specs.spl_code.Parts.{Part, pieces, piece, nothing, ◌⨟◌}
use Rattle.spl_values.specs.spl_code.Operands.{mode_of, load, index_to_x}
use Rattle.spl_values.specs.spl_code.Stores.{cell_stored, element_stored}
use Rattle.spl_values.specs.spl_code.Code.{as_value}
use Rattle.spl_values.specs.spl_follow.Simulating.{Surroundings, Simulates, Performs}
use Rattle.spl_values.specs.Reached.{is_reached, is_seen, IsWhole}

-- A value of any kind through the word of a name at a place that is seen: element 0, or what a parameter by reference stands for. In a split
-- procedure it is in the extra segment. Where a word that is read is no data word the run strays, and past STACK, or past the segment, both trap.
abbrev pub CellsSimulate : Type 0
CellsSimulate = (z : Surroundings) (d k need : ℕ) (far : Bool) (t : Kind) (place : Place) → is_seen z.setting k place ≡ true
    → far ≡ z.setting.split → width t ≤ need
    → Simulates z d as_value (width t) k need (pieces (load t true false (mode_of k place) ∷ []))
    (λ s. then_go (led_located far t (Some place) 0 s) (λ p u. read p u))

-- The same of an element: its index is made first, and goes to X.
abbrev pub ElementsSimulate : Type 0
ElementsSimulate = (z : Surroundings) (d k need : ℕ) (far : Bool) (t : Kind) (place : Place) (a : Part) (value : State → Outcome (List ℕ))
    → is_seen z.setting k place ≡ true → far ≡ z.setting.split → width t ≤ need → IsWhole a
    → Simulates z d as_value 1 k need a value
    → Simulates z d as_value (width t) k need (a ⨟ pieces (index_to_x false) ⨟ pieces (load t true true (mode_of k place) ∷ []))
    (λ s. then_go (then_go (value s) as_index) (λ i u. then_go (led_located far t (Some place) (index_or_zero i) u) (λ p v. read p v)))

-- ---- assignments

-- A value of one word is stored through the word of a name at a place that is reached, without an index: past STACK or the segment both trap, and
-- with what is no data word the run strays.
abbrev pub CellsAssigned : Type 0
CellsAssigned = (z : Surroundings) (d k need number : ℕ) (at : At) (far : Bool) (t : Kind) (place : Place) (a : Part)
    (value : State → Outcome (List ℕ)) → width t ≡ 1 → is_reached z.setting k place ≡ true → far ≡ z.setting.split → 1 ≤ need → IsWhole a
    → Simulates z d as_value 1 k need a value
    → Performs z d k need (piece (Begin at) ⨟ (nothing ⨟ a ⨟ pieces (cell_stored t false (mode_of k place))))
    (λ s. stopping number at s (λ u. then_go (value u) (λ vs v.
    then_go (led_located far t (Some place) 0 v) (λ p x. store p (kept p.kind vs) x))))

-- The same in an element: its index is made first, and waits below the value until the store has taken it to X.
abbrev pub ElementsAssigned : Type 0
ElementsAssigned = (z : Surroundings) (d k need more number : ℕ) (at : At) (far : Bool) (t : Kind) (place : Place) (a b : Part)
    (index value : State → Outcome (List ℕ)) → width t ≡ 1 → is_reached z.setting k place ≡ true → far ≡ z.setting.split → 2 ≤ need
    → more + 1 ≤ need → IsWhole a → IsWhole b → Simulates z d as_value 1 k need a index → Simulates z d as_value 1 (k + 1) more b value
    → Performs z d k need (piece (Begin at) ⨟ (a ⨟ b ⨟ pieces (element_stored t false (mode_of k place))))
    (λ s. stopping number at s (λ u. then_go (then_go (index u) as_index) (λ i v. then_go (value v) (λ vs w.
    then_go (led_located far t (Some place) (index_or_zero i) w) (λ p x. store p (kept p.kind vs) x)))))
