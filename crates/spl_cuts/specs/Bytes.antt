-- The bytes of a unit's text.
use Rattle.std.specs.Prelude.{ℕ, ◌≡◌, ◌+◌, ◌-◌, ◌*◌, Bool, false, ◌==◌, ◌&&◌, ◌||◌, nat_le, List, [], ◌∷◌, Option, None, Some, if◌then◌else◌}
use Rattle.spl_tree.specs.declared.names_and_places.At.{At}

-- a text is made of line feeds, tabs, carriage returns and the bytes 32 to 126
abbrev pub is_allowed : ℕ → Bool
is_allowed b = (b == 10) || (b == 9) || (b == 13) || (nat_le 32 b && nat_le b 126)

-- a blank in place of a byte that is allowed nowhere
abbrev pub blanked : ℕ → ℕ
blanked b = if is_allowed b then b else 32

-- blank, tab, carriage return and line feed part tokens
abbrev pub is_blank : ℕ → Bool
is_blank b = (b == 32) || (b == 9) || (b == 13) || (b == 10)

abbrev pub is_letter : ℕ → Bool
is_letter b = (nat_le 65 b && nat_le b 90) || (nat_le 97 b && nat_le b 122)

abbrev pub is_digit : ℕ → Bool
is_digit b = nat_le 48 b && nat_le b 57

abbrev pub is_octal_digit : ℕ → Bool
is_octal_digit b = nat_le 48 b && nat_le b 55

-- a name goes on with letters, digits and apostrophes
abbrev pub is_name_byte : ℕ → Bool
is_name_byte b = is_letter b || is_digit b || (b == 39)

-- a small letter is read as its capital
abbrev pub capital : ℕ → ℕ
capital b = if nat_le 97 b && nat_le b 122 then b - 32 else b

-- D, which makes a number a double
abbrev pub is_suffix : ℕ → Bool
is_suffix b = (b == 68) || (b == 100)

abbrev pub is_quote : ℕ → Bool
is_quote b = b == 34

abbrev pub is_semicolon : ℕ → Bool
is_semicolon b = b == 59

-- all but a line feed, which ends a line
abbrev pub is_in_line : ℕ → Bool
is_in_line b = if b == 10 then false else Bool.true

-- no byte that passes stands at the front
abbrev pub Stops : (ℕ → Bool) → List ℕ → Type 0
Stops p [] = Unit {0}
Stops p (b ∷ bs) = p b ≡ false

-- the text begins with a byte that passes
abbrev pub begins : (ℕ → Bool) → List ℕ → Bool
begins p [] = false
begins p (b ∷ bs) = p b

-- the mark that a byte alone is
abbrev pub mark_of : ℕ → Option ℕ
mark_of b =
    if b == 40 then Some 0 else if b == 41 then Some 1 else if b == 44 then Some 2 else if b == 59 then Some 3 else
    if b == 58 then Some 4 else if b == 46 then Some 5 else if b == 61 then Some 6 else if b == 60 then Some 7 else
    if b == 62 then Some 8 else if b == 43 then Some 9 else if b == 45 then Some 10 else if b == 42 then Some 11 else
    if b == 47 then Some 12 else if b == 38 then Some 13 else if b == 64 then Some 14 else if b == 35 then Some 15 else None

-- the mark that two bytes are: := <= >= <>
abbrev pub mark_of_two : ℕ → ℕ → Option ℕ
mark_of_two b c =
    if (b == 58) && (c == 61) then Some 16 else if (b == 60) && (c == 61) then Some 17 else
    if (b == 62) && (c == 61) then Some 18 else if (b == 60) && (c == 62) then Some 19 else None

-- decimal and octal numbers
pub data Base : Type 0 where
  decimal : Base
  octal : Base

abbrev pub is_digit_of : Base → ℕ → Bool
is_digit_of decimal b = is_digit b
is_digit_of octal b = is_octal_digit b

-- an octal number begins with %
abbrev pub prefix : Base → List ℕ
prefix decimal = []
prefix octal = 37 ∷ []

abbrev pub radix : Base → ℕ
radix decimal = 10
radix octal = 8

-- n with these digits behind it
abbrev pub value_on : Base → ℕ → List ℕ → ℕ
value_on base n [] = n
value_on base n (d ∷ ds) = value_on base (radix base * n + (d - 48)) ds

-- the number that these digits are
abbrev pub value : Base → List ℕ → ℕ
value base ds = value_on base 0 ds

-- the place after a byte: lines and columns count from 1, in bytes
abbrev pub past : At → ℕ → At
past at b = if b == 10 then record at { line = at.line + 1; column = 1 } else record at { column = at.column + 1 }

-- the place after these bytes
abbrev pub past_all : At → List ℕ → At
past_all at [] = at
past_all at (b ∷ bs) = past_all (past at b) bs
