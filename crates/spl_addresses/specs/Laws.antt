-- The laws of this crate: addresses as values, of variables, of what the words of names lead to and of elements; and addresses stored in pointers.
use Rattle.std.specs.Prelude.{◌≡◌, ℕ, ◌≤◌, Bool, true, false, List, Some}
use Rattle.spl_variables.specs.spl_tree.declared.expressions.Kind.{Kind}
use Rattle.spl_variables.specs.spl_tree.declared.names_and_places.At.{At}
use Rattle.spl_variables.specs.spl_branch.declared.pieces.Piece.TheVariants.{Begin}
use Rattle.spl_variables.specs.spl_meaning.Elements.{with_one}
use Rattle.spl_variables.specs.spl_meaning.Places.{Place}
use Rattle.spl_variables.specs.spl_meaning.References.{by_cell, address_of, variable_located, led_located, index_or_zero}
use Rattle.spl_variables.specs.spl_meaning.States.{State, Outcome, then_go, stopping}
use Rattle.spl_variables.specs.spl_meaning.Statements.{cell_stored}
use Rattle.spl_variables.specs.spl_meaning.Values.{as_index, address_done}
use Rattle.spl_variables.specs.spl_code.Code.{as_value}
use Rattle.spl_variables.specs.spl_code.Operands.{mode_of, own_address, cell_address, leads_to_doubles, index_to_x}
use Rattle.spl_variables.specs.spl_code.Parts.{Part, pieces, piece, nothing, ◌⨟◌}
use Rattle.spl_variables.specs.spl_code.Stores.{pointer_stored}
use Rattle.spl_variables.specs.spl_follow.Simulating.{Surroundings, Simulates, Performs}
use Rattle.spl_variables.specs.spl_values.Reached.{is_reached, is_seen, IsWhole}

-- the address of a variable of any kind at a place that is seen, which counts bytes for a BYTE
abbrev pub AddressesOfVariablesSimulate : Type 0
AddressesOfVariablesSimulate = (z : Surroundings) (d k need : ℕ) (t : Kind) (place : Place) → is_seen z.setting k place ≡ true → 1 ≤ need
    → Simulates z d as_value 1 k need (pieces (own_address t false (mode_of k place)))
    (λ s. address_done (variable_located t (address_of place s.now)) s)

-- The address to which the word of a name at such a place leads, which is that word. Where it is no data word the run strays, and past STACK both trap.
abbrev pub AddressesOfCellsSimulate : Type 0
AddressesOfCellsSimulate = (z : Surroundings) (d k need : ℕ) (far : Bool) (t : Kind) (place : Place) → is_seen z.setting k place ≡ true → 1 ≤ need
    → Simulates z d as_value 1 k need (pieces (cell_address false (mode_of k place)))
    (λ s. then_go (led_located far t (Some place) 0 s) (λ p u. address_done p u))

-- The address of an element: its index is made first, and goes to X, doubled where the elements are DOUBLEs.
abbrev pub AddressesOfElementsSimulate : Type 0
AddressesOfElementsSimulate = (z : Surroundings) (d k need : ℕ) (is_pointer far : Bool) (t : Kind) (place : Place) (a : Part) (value : State → Outcome (List ℕ))
    → is_seen z.setting k place ≡ true → 1 ≤ need → IsWhole a → Simulates z d as_value 1 k need a value
    → Simulates z d as_value 1 k need
    (a ⨟ pieces (index_to_x (leads_to_doubles (by_cell is_pointer t))) ⨟ pieces (cell_address true (mode_of k place)))
    (λ s. then_go (then_go (value s) as_index) (λ i u. then_go (led_located far t (Some place) (index_or_zero i) u) (λ p v. address_done p v)))

-- A value is stored in a pointer's own word, at a place that is reached.
abbrev pub PointersAssigned : Type 0
PointersAssigned = (z : Surroundings) (d k need number : ℕ) (at : At) (place : Place) (a : Part) (value : State → Outcome (List ℕ))
    → is_reached z.setting k place ≡ true → 1 ≤ need → IsWhole a → Simulates z d as_value 1 k need a value
    → Performs z d k need (piece (Begin at) ⨟ (nothing ⨟ a ⨟ pieces (pointer_stored k place)))
    (λ s. stopping number at s (λ u. then_go (value u) (λ vs v. with_one vs v (λ x w. cell_stored (Some place) x w))))
