-- A field as arithmetic on the word: a quotient, a remainder, or a sum of three parts.
use Rattle.std.proofs.Common.{◌≡◌, ℕ, ◌+◌, ◌-◌, ◌*◌, ◌/◌, ◌%◌, ◌^◌, ◌≤◌, ◌<◌, refl, arith}
use Rattle.std.proofs.lemmas.Bool.Decides.{nat_tests}
use Rattle.hp_word.specs.Bits.{bit, field, with_field, bit_with_field}
use Rattle.hp_word.proofs.BitLemmas.{number_of-halves, number_of-part, number_of-first, number_of-last, number_of-below, bit-small}

-- the field alone
pub field-value : (w s n : ℕ) → s + n ≤ 16 → field w s n ≡ w / 2 ^ (16 - s - n) % 2 ^ n
unfolding field
field-value w s n fits = number_of-part n s (16 - s - n) w (λ (i : ℕ). bit (s + i) w) (omega arith) (λ i h. refl)

-- left of the field the bits are those of the word
left_bit : (w s n v i : ℕ) → i < s → bit_with_field w s n v i ≡ bit i w
left_bit w s n v i left = grind (arith, nat_tests)

-- in it they are the last ones of v
field_bit : (w s n v i : ℕ) → i < n → bit_with_field w s n v (s + i) ≡ bit (16 - n + i) v
field_bit w s n v i inside = let at : s + i - s ≡ i = omega arith in rw at (grind (arith, nat_tests))

-- and right of it those of the word
right_bit : (w s n v i : ℕ) → bit_with_field w s n v (s + (n + i)) ≡ bit (s + n + i) w
right_bit w s n v i = let at : s + (n + i) ≡ s + n + i = omega arith in rw at (grind (arith, nat_tests))

-- a word with a new field: what is left of it, the field, and what is right of it
pub with_field-value : (w s n v : ℕ) → s + n ≤ 16 → w < 65536
    → with_field w s n v ≡ w / 2 ^ (16 - s) * 2 ^ (16 - s) + (v % 2 ^ n * 2 ^ (16 - s - n) + w % 2 ^ (16 - s - n))
unfolding with_field
with_field-value w s n v fits word =
    let r : ℕ = 16 - s - n in
    let f : ℕ → ℕ = bit_with_field w s n v in
    let first = number_of-first s (16 - s) w f (omega arith) word (λ i h. left_bit w s n v i h) in
    let middle = number_of-last n (16 - n) v (λ (i : ℕ). f (s + i)) (omega arith) (λ i h. field_bit w s n v i h) in
    let last = number_of-last r (s + n) w (λ (i : ℕ). f (s + (n + i))) (omega arith) (λ i h. right_bit w s n v i) in
    let rest = number_of-halves n r (16 - s) (v % 2 ^ n) (w % 2 ^ r) (λ (i : ℕ). f (s + i)) (omega arith) middle last in
    number_of-halves s (16 - s) 16 (w / 2 ^ (16 - s)) (v % 2 ^ n * 2 ^ r + w % 2 ^ r) f (omega arith) first rest

-- which is a word
pub with_field-below : (w s n v : ℕ) → with_field w s n v < 65536
unfolding with_field
with_field-below w s n v = number_of-below 16 (bit_with_field w s n v) (λ i. grind (arith, nat_tests, bit-small))

-- so the sum that makes it fits
pub with_field_sum-below : (w s n v : ℕ) → s + n ≤ 16 → w < 65536
    → w / 2 ^ (16 - s) * 2 ^ (16 - s) + (v % 2 ^ n * 2 ^ (16 - s - n) + w % 2 ^ (16 - s - n)) < 65536
with_field_sum-below w s n v fits word = omega (arith, with_field-value w s n v fits word, with_field-below w s n v)

-- a field of n bits is below the n-th power of two
pub field-below : (w s n : ℕ) → field w s n < 2 ^ n
unfolding field
field-below w s n = number_of-below n (λ (i : ℕ). bit (s + i) w) (λ i. bit-small (s + i) w)

-- what taking and putting a field cite
pub ruleset fields = (field-value, with_field-value, with_field_sum-below)
