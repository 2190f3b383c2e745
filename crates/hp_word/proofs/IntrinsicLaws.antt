-- Rows of bytes from an address upwards, and when one is in bounds: by its last byte alone.
use Rattle.std.proofs.Common.{◌≡◌, ℕ, zero, suc, ◌+◌, ◌*◌, ◌/◌, ◌||◌, true, List, [], ◌∷◌, length, refl, append-nil, ap, arith}
use Rattle.std.specs.Prelude.{map, nat_lt, nat_le, ◌==◌}
use Rattle.std.specs.List.{list_all}
use Rattle.std.proofs.lemmas.Bool.Decides.{nat_tests}
use Rattle.hp_word.specs.Intrinsics.{Effect, addresses, stored_from, is_in_bounds}

-- there are as many addresses as bytes
pub length-addresses : (first count : ℕ) → length (addresses first count) ≡ count
unfolding addresses
length-addresses first zero = refl
length-addresses first (suc count) = omega (arith, length-addresses (suc first) count)

-- the addresses of stored bytes
pub addresses-stored_from : (first : ℕ) (bytes : List ℕ)
    → map (λ (s : ℕ × ℕ). s.0) (stored_from first bytes) ≡ addresses first (length bytes)
unfolding addresses stored_from
addresses-stored_from first [] = refl
addresses-stored_from first (byte ∷ bytes) =
    ap (λ (others : List ℕ). first ∷ others) (addresses-stored_from (suc first) bytes)

-- bytes are in bounds where there are none or the last one is below twice the number of words
pub list_all-addresses : (limit first count : ℕ)
    → list_all (λ b. nat_lt (b / 2) limit) (addresses first count) ≡ (count == 0 || nat_le (first + count) (2 * limit))
unfolding addresses
list_all-addresses limit first zero = refl
list_all-addresses limit first (suc count) =
    grind (arith, nat_tests, list_all-addresses limit (suc first) count)

-- so a call that reads a row of bytes is in bounds where the row is
pub is_in_bounds-reads : (limit first count : ℕ) (e : Effect) → e.reads ≡ addresses first count → e.stores ≡ []
    → is_in_bounds limit e ≡ (count == 0 || nat_le (first + count) (2 * limit))
unfolding is_in_bounds
is_in_bounds-reads limit first count e read none =
    rw (read, none, append-nil (addresses first count)) (list_all-addresses limit first count)

-- and one that stores a row too
pub is_in_bounds-stores : (limit first : ℕ) (bytes : List ℕ) (e : Effect) → e.reads ≡ [] → e.stores ≡ stored_from first bytes
    → is_in_bounds limit e ≡ (length bytes == 0 || nat_le (first + length bytes) (2 * limit))
unfolding is_in_bounds
is_in_bounds-stores limit first bytes e none stored =
    rw (none, stored, addresses-stored_from first bytes) (list_all-addresses limit first (length bytes))

-- a call that touches no byte is in bounds
pub is_in_bounds-nothing : (limit : ℕ) (e : Effect) → e.reads ≡ [] → e.stores ≡ [] → is_in_bounds limit e ≡ true
unfolding is_in_bounds
is_in_bounds-nothing limit e no_read no_store = rw (no_read, no_store) refl
