-- The texts of numbers, as bytes of ASCII, and the number in a text.
use Rattle.std.specs.Prelude.{ℕ, zero, suc, ◌+◌, ◌-◌, ◌*◌, ◌/◌, ◌%◌, ℤ, pos, neg_ℤ, List, [], ◌∷◌, ◌++◌, length, Bool, true, false, not, ◌&&◌, ◌||◌, ◌==◌, nat_lt, nat_le, int_lt, if◌then◌else◌}
use Rattle.std.specs.Fmt.{signed_decimal}
use Rattle.std.specs.List.{list_all}
use Rattle.hp_word.specs.Words.{word_of, double_of}
use Rattle.hp_word.specs.declared.numbers.Number.{Number}
use Rattle.hp_word.specs.declared.numbers.Number.TheVariants.{Value, TooLarge, BadForm}

-- From a number to its text

-- a number in decimal: `-` before a negative one, and no leading zero
abbrev pub decimal_text_of : ℤ → List ℕ
decimal_text_of z = signed_decimal z

-- the last k octal digits of a number, leading zeros too
unfoldable pub octal_text_of : ℕ → ℕ → List ℕ
octal_text_of zero n = []
octal_text_of (suc k) n = octal_text_of k (n / 8) ++ (48 + n % 8) ∷ []

-- From a text to its number

-- a digit of the base, which is at most ten
abbrev pub is_digit : ℕ → ℕ → Bool
is_digit base byte = nat_le 48 byte && nat_lt byte (48 + base)

-- at least one digit of the base, and nothing else
unfoldable pub is_digits : ℕ → List ℕ → Bool
is_digits base text = not (length text == 0) && list_all (is_digit base) text

-- the number of some digits that follow digits of the number n
unfoldable pub value_after : ℕ → ℕ → List ℕ → ℕ
value_after base n [] = n
value_after base n (d ∷ ds) = value_after base (base * n + (d - 48)) ds

-- the number that digits spell, the first of them the most significant
abbrev pub digits_value : ℕ → List ℕ → ℕ
digits_value base digits = value_after base 0 digits

-- a decimal number: -32,768 to 65,535 for a word, -2,147,483,648 to 2,147,483,647 for a double
unfoldable pub decimal_number : Bool → ℤ → Number
decimal_number false z = if int_lt z (neg_ℤ (pos 32768)) || int_lt (pos 65535) z then TooLarge else Value (word_of z)
decimal_number true z =
    if int_lt z (neg_ℤ (pos 2147483648)) || int_lt (pos 2147483647) z then TooLarge else Value (double_of z)

-- an octal number: sixteen bits for a word, thirty-two for a double
unfoldable pub octal_number : Bool → ℕ → Number
octal_number false n = if nat_lt 65535 n then TooLarge else Value n
octal_number true n = if nat_lt 4294967295 n then TooLarge else Value n

-- a number, or minus that number
abbrev pub with_sign : Bool → ℕ → ℤ
with_sign negative n = if negative then neg_ℤ (pos n) else pos n

-- decimal digits after a sign
unfoldable pub decimal_digits : Bool → Bool → List ℕ → Number
decimal_digits wide negative digits =
    if is_digits 10 digits then decimal_number wide (with_sign negative (digits_value 10 digits)) else BadForm

-- octal digits
unfoldable pub octal_digits : Bool → List ℕ → Number
octal_digits wide digits = if is_digits 8 digits then octal_number wide (digits_value 8 digits) else BadForm

-- the number in a text: nothing at all is zero; else `%` and octal digits, or decimal digits, perhaps after `+` or `-`
unfoldable pub number : List ℕ → Bool → Number
number [] wide = Value 0
number (first ∷ rest) wide =
    if first == 37 then octal_digits wide rest  -- `%`
    else if first == 43 then decimal_digits wide false rest  -- `+`
    else if first == 45 then decimal_digits wide true rest  -- `-`
    else decimal_digits wide false (first ∷ rest)
