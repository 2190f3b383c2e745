-- The digits of a number of 64 bits, from the first to the last, and how many there are.
use Rattle.std.proofs.Common.{◌≡◌, ℕ, ◌+◌, ◌/◌, ◌%◌, ◌^◌, ◌≤◌, ◌<◌, List, [], ◌∷◌, ◌++◌, length, arith, length-append, ap, sym, append_assoc, ◌∙◌}
use Rattle.std.specs.Fmt.{decimal}
use Rattle.std.proofs.lemmas.Fmt.{decimal_step, decimal_digit, length-decimal-le}

-- a text that ends in the digits of a number's tenth needs one digit more
pub append-tenth : (text : List ℕ) (n : ℕ) → 10 ≤ n → n < 2 ^ 64
    → (text ++ decimal (n / 10)) ++ ((48 + n % 10) ∷ []) ≡ text ++ decimal n
append-tenth text n many small =
    append_assoc text (decimal (n / 10)) ((48 + n % 10) ∷ []) ∙ ap (λ ds. text ++ ds) (sym (decimal_step n many small))

-- and is one shorter
pub length-tenth : (text : List ℕ) (n : ℕ) → 10 ≤ n → n < 2 ^ 64
    → length (text ++ decimal (n / 10)) + 1 ≡ length text + length (decimal n)
length-tenth text n many small =
    let whole = ap length (decimal_step n many small) in
    omega (arith, whole, length-append text (decimal (n / 10)), length-append (decimal (n / 10)) ((48 + n % 10) ∷ []))

-- the tenth of a number has one digit less
pub length-decimal-tenth : (n : ℕ) → 10 ≤ n → n < 2 ^ 64 → length (decimal n) ≡ length (decimal (n / 10)) + 1
length-decimal-tenth n many small =
    ap length (decimal_step n many small) ∙ length-append (decimal (n / 10)) ((48 + n % 10) ∷ [])

-- a number below ten is its digit
pub one_digit : (n : ℕ) → n < 10 → decimal n ≡ (48 + n) ∷ []
one_digit n small = decimal_digit n small

-- a number of 64 bits has at most twenty digits
pub length-decimal-short : (n : ℕ) → n < 2 ^ 64 → length (decimal n) ≤ 20
length-decimal-short n small = length-decimal-le 20 n (omega arith) (omega arith) (omega arith)

pub ruleset digit_steps = (append-tenth, length-tenth, length-decimal-tenth, one_digit)

pub ruleset digit_counts = (length-decimal-short)
