-- The laws of this crate: values stored through the words of names at places that are seen, each over its parts as variables. Where such a place is
-- counted from the top, the value has moved that away, and the word is brought below the value first.
use Rattle.std.specs.Prelude.{◌≡◌, ℕ, ◌+◌, ◌≤◌, Bool, true, List, Some}
use Rattle.spl_tops.specs.spl_tree.declared.names_and_places.At.{At}
use Rattle.spl_tops.specs.spl_tree.declared.expressions.Kind.{Kind}
use Rattle.spl_tops.specs.spl_tree.declared.expressions.Kind.TheVariants as kind
use Rattle.spl_tops.specs.spl_branch.declared.pieces.Piece.TheVariants.{Begin}
use Rattle.spl_tops.specs.spl_meaning.Kinds.{width}
use Rattle.spl_tops.specs.spl_meaning.Operations.{kept}
use Rattle.spl_tops.specs.spl_meaning.Places.{Place}
use Rattle.spl_tops.specs.spl_meaning.References.{led_located, index_or_zero, store}
use Rattle.spl_tops.specs.spl_meaning.States.{State, Outcome, then_go, stopping}
use Rattle.spl_tops.specs.spl_meaning.Values.{as_index}
use Rattle.spl_tops.specs.spl_code.Code.{as_value}
use Rattle.spl_tops.specs.spl_code.Operands.{mode_of}
use Rattle.spl_tops.specs.spl_code.Parts.{Part, pieces, piece, nothing, ◌⨟◌}
use Rattle.spl_tops.specs.spl_code.Stores.{from_top, cell_stored, element_stored}
use Rattle.spl_tops.specs.spl_follow.Simulating.{Surroundings, Simulates, Performs}
use Rattle.spl_tops.specs.spl_values.Reached.{IsWhole}
use Rattle.spl_tops.specs.Seen.{is_seen}

-- A value of one word is stored in an element. Its index is made first, and waits below the value, and below the word that is brought there.
abbrev pub ElementsPut : Type 0
ElementsPut = (z : Surroundings) (d k need more number : ℕ) (at : At) (far : Bool) (t : Kind) (place : Place) (a b : Part)
    (index value : State → Outcome (List ℕ)) → width t ≡ 1 → is_seen z.setting k place ≡ true → far ≡ z.setting.split → 3 ≤ need → more + 1 ≤ need
    → IsWhole a → IsWhole b → Simulates z d as_value 1 k need a index → Simulates z d as_value 1 (k + 1) more b value
    → Performs z d k need (piece (Begin at) ⨟ (a ⨟ b ⨟ pieces (element_stored t (from_top place) (mode_of k place))))
    (λ s. stopping number at s (λ u. then_go (then_go (index u) as_index) (λ i v. then_go (value v) (λ vs w.
    then_go (led_located far t (Some place) (index_or_zero i) w) (λ p x. store p (kept p.kind vs) x)))))

-- A DOUBLE is stored through the word at such a place, without an index. In a split procedure what is led to is in the extra segment.
abbrev pub DoubleCellsPut : Type 0
DoubleCellsPut = (z : Surroundings) (d k need number : ℕ) (at : At) (far : Bool) (place : Place) (a : Part) (value : State → Outcome (List ℕ))
    → is_seen z.setting k place ≡ true → far ≡ z.setting.split → 3 ≤ need → IsWhole a → Simulates z d as_value 2 k need a value
    → Performs z d k need (piece (Begin at) ⨟ (nothing ⨟ a ⨟ pieces (cell_stored kind.Double (from_top place) (mode_of k place))))
    (λ s. stopping number at s (λ u. then_go (value u) (λ vs v.
    then_go (led_located far kind.Double (Some place) 0 v) (λ p x. store p (kept p.kind vs) x))))

-- And in an element.
abbrev pub DoubleElementsPut : Type 0
DoubleElementsPut = (z : Surroundings) (d k need more number : ℕ) (at : At) (far : Bool) (place : Place) (a b : Part)
    (index value : State → Outcome (List ℕ)) → is_seen z.setting k place ≡ true → far ≡ z.setting.split → 4 ≤ need → more + 1 ≤ need → IsWhole a
    → IsWhole b → Simulates z d as_value 1 k need a index → Simulates z d as_value 2 (k + 1) more b value
    → Performs z d k need (piece (Begin at) ⨟ (a ⨟ b ⨟ pieces (element_stored kind.Double (from_top place) (mode_of k place))))
    (λ s. stopping number at s (λ u. then_go (then_go (index u) as_index) (λ i v. then_go (value v) (λ vs w.
    then_go (led_located far kind.Double (Some place) (index_or_zero i) w) (λ p x. store p (kept p.kind vs) x)))))
