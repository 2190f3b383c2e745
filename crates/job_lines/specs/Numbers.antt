-- Numbers in words.
use Rattle.std.specs.Prelude.{ℕ, ◌+◌, ◌-◌, ◌*◌, Bool, ◌&&◌, nat_lt, nat_le, if◌then◌else◌, List, [], ◌∷◌, length, Option, None, Some}

-- a decimal digit
abbrev pub is_digit : ℕ → Bool
is_digit b = nat_le 48 b && nat_le b 57

-- n followed by these decimal digits; none where one is no digit
abbrev pub digits_after : ℕ → List ℕ → Option ℕ
digits_after n [] = Some n
digits_after n (d ∷ ds) = if is_digit d then digits_after (10 * n + (d - 48)) ds else None

-- the number that a word of 1 to 10 decimal digits is
unfoldable pub number_in : List ℕ → Option ℕ
number_in w = if nat_lt 0 (length w) && nat_le (length w) 10 then digits_after 0 w else None

-- a number is from one limit to another
abbrev pub is_between : ℕ → ℕ → ℕ → Bool
is_between low high n = nat_le low n && nat_le n high
