-- What the digits of a decimal text are, from the first to the last, and how many there are.
use Rattle.std.proofs.Common.{◌≡◌, ℕ, zero, suc, refl, ◌+◌, ◌/◌, ◌%◌, ◌^◌, ◌≤◌, ◌<◌, List, [], ◌∷◌, ◌++◌, length, arith, length-append, ap, sym, append_assoc, ◌∙◌}
use Rattle.std.specs.Fmt.{decimal}
use Rattle.hp_word.specs.Texts.{octal_text_of}
use Rattle.std.proofs.lemmas.Fmt.{decimal_step, decimal_digit, length-decimal-le}

-- the last digit of a number of two digits or more stands after those of its tenth
last_digit : (n : ℕ) → 10 ≤ n → n < 2 ^ 32 → decimal n ≡ decimal (n / 10) ++ ((48 + n % 10) ∷ [])
last_digit n many small = decimal_step n many (omega arith)

-- so a text that ends in the tenth's digits needs that one more
pub append-tenth : (text : List ℕ) (n : ℕ) → 10 ≤ n → n < 2 ^ 32
    → (text ++ decimal (n / 10)) ++ ((48 + n % 10) ∷ []) ≡ text ++ decimal n
append-tenth text n many small =
    append_assoc text (decimal (n / 10)) ((48 + n % 10) ∷ []) ∙ ap (λ ds. text ++ ds) (sym (last_digit n many small))

-- and is one shorter
pub length-tenth : (text : List ℕ) (n : ℕ) → 10 ≤ n → n < 2 ^ 32
    → length (text ++ decimal (n / 10)) + 1 ≡ length text + length (decimal n)
length-tenth text n many small =
    let whole = ap length (last_digit n many small) in
    omega (arith, whole, length-append text (decimal (n / 10)), length-append (decimal (n / 10)) ((48 + n % 10) ∷ []))

-- the tenth of a number has one digit less
pub length-decimal-tenth : (n : ℕ) → 10 ≤ n → n < 2 ^ 32 → length (decimal n) ≡ length (decimal (n / 10)) + 1
length-decimal-tenth n many small =
    ap length (last_digit n many small) ∙ length-append (decimal (n / 10)) ((48 + n % 10) ∷ [])

-- a number below ten is its digit
pub one_digit : (n : ℕ) → n < 10 → decimal n ≡ (48 + n) ∷ []
one_digit n small = decimal_digit n small

-- a number of thirty-two bits has at most ten digits
pub length-decimal-short : (n : ℕ) → n < 2 ^ 32 → length (decimal n) ≤ 10
length-decimal-short n small = length-decimal-le 10 n (omega arith) (omega arith) (omega arith)

-- an octal text has as many digits as it was asked for
pub length-octal_text_of : (k n : ℕ) → length (octal_text_of k n) ≡ k
unfolding octal_text_of
length-octal_text_of zero n = refl
length-octal_text_of (suc k) n =
    omega (arith, length-append (octal_text_of k (n / 8)) ((48 + n % 8) ∷ []), length-octal_text_of k (n / 8))

-- also after another text
pub length-append-octal : (text : List ℕ) (k n : ℕ) → length (text ++ octal_text_of k n) ≡ length text + k
length-append-octal text k n =
    length-append text (octal_text_of k n) ∙ ap (λ (m : ℕ). length text + m) (length-octal_text_of k n)

-- what the octal text cites
pub ruleset octal_counts = (length-append-octal)

-- what the decimal digits cite
pub ruleset digits_of = (append-tenth, length-tenth, length-decimal-tenth, one_digit)

-- what the decimal text cites
pub ruleset digit_counts = (length-decimal-short)
