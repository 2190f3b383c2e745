-- The laws of this crate: values that are stored in bit fields, of what stands at places that are seen, or where their words lead.
use Rattle.std.specs.Prelude.{◌≡◌, ℕ, ◌+◌, ◌≤◌, Bool, true, false, List, Some}
use Rattle.spl_field_stores.specs.spl_tree.declared.expressions.Kind.{Kind}
use Rattle.spl_field_stores.specs.spl_tree.declared.names_and_places.At.{At}
use Rattle.spl_field_stores.specs.spl_branch.declared.pieces.Piece.TheVariants.{Begin}
use Rattle.spl_field_stores.specs.spl_meaning.Places.{Place}
use Rattle.spl_field_stores.specs.spl_meaning.References.{its_own, address_of, variable_located, led_located, index_or_zero, store_field}
use Rattle.spl_field_stores.specs.spl_meaning.States.{State, Outcome, then_go, stopping}
use Rattle.spl_field_stores.specs.spl_meaning.Values.{as_index}
use Rattle.spl_field_stores.specs.spl_code.Code.{as_value}
use Rattle.spl_field_stores.specs.spl_code.Operands.{mode_of}
use Rattle.spl_field_stores.specs.spl_code.Parts.{Part, pieces, piece, nothing, ◌⨟◌}
use Rattle.spl_field_stores.specs.spl_code.Stores.{from_top, field_stored, cell_field, element_field}
use Rattle.spl_field_stores.specs.spl_follow.Simulating.{Surroundings, Simulates, Performs}
use Rattle.spl_field_stores.specs.spl_values.Reached.{is_word_kind, IsWhole}
use Rattle.spl_field_stores.specs.Laws.{is_within}
use Rattle.spl_tops.specs.Seen.{is_seen}

-- The last bits of a value are stored in a field of a variable of one word, whose other bits stay. The value has moved the top away from where the
-- variable's place was counted, so that X takes the mode back.
abbrev pub FieldsOfVariablesPut : Type 0
FieldsOfVariablesPut = (z : Surroundings) (d k need number start size : ℕ) (at : At) (t : Kind) (place : Place) (a : Part)
    (value : State → Outcome (List ℕ)) → is_within start size ≡ true → is_word_kind t ≡ true → is_seen z.setting k place ≡ true → 2 ≤ need → IsWhole a
    → Simulates z d as_value 1 k need a value
    → Performs z d k need (piece (Begin at) ⨟ (nothing ⨟ a ⨟ pieces (field_stored (its_own t) start size false k place)))
    (λ s. stopping number at s (λ u. then_go (value u) (λ vs v. store_field (variable_located t (address_of place v.now)) start size vs v)))

-- The same of the word to which the word of a name leads, in the extra segment in a split procedure. Where the place is counted from the top, the
-- name's word is brought below the value first.
abbrev pub FieldsOfCellsPut : Type 0
FieldsOfCellsPut = (z : Surroundings) (d k need number start size : ℕ) (at : At) (far : Bool) (t : Kind) (place : Place) (a : Part)
    (value : State → Outcome (List ℕ)) → is_within start size ≡ true → is_word_kind t ≡ true → is_seen z.setting k place ≡ true
    → far ≡ z.setting.split → 3 ≤ need → IsWhole a → Simulates z d as_value 1 k need a value
    → Performs z d k need (piece (Begin at) ⨟ (nothing ⨟ a ⨟ pieces (cell_field start size (from_top place) (mode_of k place))))
    (λ s. stopping number at s (λ u. then_go (value u) (λ vs v.
    then_go (led_located far t (Some place) 0 v) (λ p x. store_field p start size vs x))))

-- The same of an element: its index is made first, and waits below the value until it goes to X; where the place is counted from the top, the name's
-- word comes between them.
abbrev pub FieldsOfElementsPut : Type 0
FieldsOfElementsPut = (z : Surroundings) (d k need more number start size : ℕ) (at : At) (far : Bool) (t : Kind) (place : Place) (a b : Part)
    (index value : State → Outcome (List ℕ)) → is_within start size ≡ true → is_word_kind t ≡ true → is_seen z.setting k place ≡ true
    → far ≡ z.setting.split → 4 ≤ need → more + 1 ≤ need → IsWhole a → IsWhole b → Simulates z d as_value 1 k need a index
    → Simulates z d as_value 1 (k + 1) more b value
    → Performs z d k need (piece (Begin at) ⨟ (a ⨟ b ⨟ pieces (element_field start size (from_top place) (mode_of k place))))
    (λ s. stopping number at s (λ u. then_go (then_go (index u) as_index) (λ i v. then_go (value v) (λ vs w.
    then_go (led_located far t (Some place) (index_or_zero i) w) (λ p x. store_field p start size vs x)))))
