-- Addresses in bounds, and the word that is read at one.
use Rattle.std.specs.Prelude.{ℕ, nat_lt, List, slice_index, Result, Ok, Err, if◌then◌else◌}
use Rattle.hp_window.specs.declared.bounds.Bounds.{Bounds}

-- an address is in bounds where it is below top; the refusal shows both
abbrev pub bounded : {A : Type 0} → ℕ → ℕ → A → Result A Bounds
bounded address top answer = if nat_lt address top then Ok answer else Err (record { address = address; top = top })

-- the word of a list at an address below top
abbrev pub read_below : List ℕ → ℕ → ℕ → Result ℕ Bounds
read_below words address top = bounded address top (slice_index words address)
