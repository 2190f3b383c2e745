-- Each shift as arithmetic on the word: multiplied or divided by a power of two.
-- 1. the shifted bits are the first or last bits of the word, beside zeros or copies of the sign (number_of-halves)
-- 2. those are a quotient or a remainder by a power of two (number_of-first, number_of-last)
-- 3. moved up they are what stays of a product (moved_up)
use Rattle.std.proofs.Common.{◌≡◌, ℕ, zero, suc, ◌+◌, ◌-◌, ◌*◌, ◌/◌, ◌%◌, ◌^◌, ◌≤◌, ◌<◌, refl, ap, sym, ◌∙◌, arith, add_comm, add-one}
use Rattle.std.proofs.Math.Nat.{mul-mod_left, suc-mul, pow-le-pow_right}
use Rattle.std.proofs.lemmas.Nat.{mod-pow-add, shl-shr, pow-add, pow_pos, one_shl}
use Rattle.std.proofs.lemmas.Bool.Decides.{nat_tests}
use Rattle.hp_word.specs.Bits.{bit, number_of, shifted, shifted_bit}
use Rattle.hp_word.specs.declared.shifts.Shift.{Shift}
use Rattle.hp_word.specs.declared.shifts.Shift.TheVariants.{Asl, Asr, Lsl, Lsr, Csl, Csr}
use Rattle.hp_word.proofs.BitLemmas.{bit-at, bit-past, number_of-same, number_of-halves, number_of-zeros, number_of-copies, number_of-first, number_of-last, number_of-below, bit-small}

-- what stays within r + n bits of a number that moved up by n places
moved_up : (a r n m : ℕ) → r + n ≡ m → a * 2 ^ n % 2 ^ m ≡ a % 2 ^ r * 2 ^ n
moved_up a r n m all =
    let parted = rw (shl-shr a n, mul-mod_left a (2 ^ n)) at (mod-pow-add (a * 2 ^ n) r n) in
    rw (sym all) (omega (arith, parted))

-- LSL by less than a word
pub shifted-Lsl : (w n : ℕ) → n < 16 → shifted Lsl w n ≡ w * 2 ^ n % 65536
unfolding shifted
shifted-Lsl w n short =
    let r : ℕ = 16 - n in
    let all : r + n ≡ 16 = omega arith in
    let f : ℕ → ℕ = shifted_bit Lsl w n in
    let kept = number_of-last r n w f (omega arith) (λ i h. ap (λ (k : ℕ). bit k w) (add_comm i n)) in
    let new = number_of-zeros n (λ (i : ℕ). f (r + i)) (λ i h. bit-past (r + i + n) w (omega arith)) in
    number_of-halves r n 16 (w % 2 ^ r) 0 f all kept new ∙ omega (arith, moved_up w r n 16 all)

-- LSL by a word or more
pub shifted-Lsl-past : (w n : ℕ) → 16 ≤ n → shifted Lsl w n ≡ 0
unfolding shifted
shifted-Lsl-past w n long = number_of-zeros 16 (shifted_bit Lsl w n) (λ i h. bit-past (i + n) w (omega arith))

-- in a right shift bit n + i is the old bit i
Lsr-bit : (w n i : ℕ) → shifted_bit Lsr w n (n + i) ≡ bit i w
Lsr-bit w n i = let back : n + i - n ≡ i = omega arith in rw back (grind (arith, nat_tests))

-- LSR by less than a word: zeros stand before what stays
pub shifted-Lsr : (w n : ℕ) → n < 16 → w < 65536 → shifted Lsr w n ≡ w / 2 ^ n
unfolding shifted
shifted-Lsr w n short fits =
    let r : ℕ = 16 - n in
    let f : ℕ → ℕ = shifted_bit Lsr w n in
    let new = number_of-zeros n f (λ i h. grind (arith, nat_tests)) in
    let kept = number_of-first r n w (λ (i : ℕ). f (n + i)) (omega arith) fits (λ i h. Lsr-bit w n i) in
    number_of-halves n r 16 0 (w / 2 ^ n) f (omega arith) new kept ∙ omega arith

-- LSR by a word or more
pub shifted-Lsr-past : (w n : ℕ) → 16 ≤ n → shifted Lsr w n ≡ 0
unfolding shifted
shifted-Lsr-past w n long = number_of-zeros 16 (shifted_bit Lsr w n) (λ i h. grind (arith, nat_tests))

-- bit 0 is the sign
sign : (w : ℕ) → w < 65536 → bit 0 w ≡ w / 32768
sign w fits = bit-at 0 15 w refl ∙ omega arith

-- in ASL only bit 0 is the sign
Asl-bit : (w n i : ℕ) → shifted_bit Asl w n (1 + i) ≡ bit (1 + n + i) w
Asl-bit w n i = let same : 1 + i + n ≡ 1 + n + i = omega arith in rw (sym same) (grind (arith, nat_tests))

-- ASL by less than fifteen: the sign, and then a product
pub shifted-Asl : (w n : ℕ) → n < 15 → w < 65536 → shifted Asl w n ≡ w / 32768 * 32768 + w * 2 ^ n % 32768
unfolding shifted number_of
shifted-Asl w n short fits =
    let r : ℕ = 15 - n in
    let all : r + n ≡ 15 = omega arith in
    let f : ℕ → ℕ = shifted_bit Asl w n in
    let g : ℕ → ℕ = λ (i : ℕ). f (1 + i) in
    let kept = number_of-last r (1 + n) w g (omega arith) (λ i h. Asl-bit w n i) in
    let new = number_of-zeros n (λ (i : ℕ). g (r + i))
    (λ i h. Asl-bit w n (r + i) ∙ bit-past (1 + n + (r + i)) w (omega arith)) in
    let others = number_of-halves r n 15 (w % 2 ^ r) 0 g all kept new in
    let first : number_of 1 f ≡ w / 32768 = omega (arith, sign w fits) in
    number_of-halves 1 15 16 (w / 32768) (w % 2 ^ r * 2 ^ n) f refl first (others ∙ omega arith)
    ∙ omega (arith, moved_up w r n 15 all)

-- ASL by fifteen or more: the sign alone
pub shifted-Asl-past : (w n : ℕ) → 15 ≤ n → w < 65536 → shifted Asl w n ≡ w / 32768 * 32768
unfolding shifted number_of
shifted-Asl-past w n long fits =
    let f : ℕ → ℕ = shifted_bit Asl w n in
    let none = number_of-zeros 15 (λ (i : ℕ). f (1 + i))
    (λ i h. Asl-bit w n i ∙ bit-past (1 + n + i) w (omega arith)) in
    let first : number_of 1 f ≡ w / 32768 = omega (arith, sign w fits) in
    number_of-halves 1 15 16 (w / 32768) 0 f refl first none ∙ omega arith

-- a product whose first factor is one less
one_less : (x a r : ℕ) → x + 1 ≡ a → x * r ≡ a * r - r
one_less x a r next =
    let all : a * r ≡ suc x * r = ap (λ (n : ℕ). n * r) (sym next ∙ add-one x) in
    omega (arith, all, suc-mul x r)

-- in ASR bit n + i is the old bit i
Asr-bit : (w n i : ℕ) → shifted_bit Asr w n (n + i) ≡ bit i w
Asr-bit w n i = let back : n + i - n ≡ i = omega arith in rw back (grind (arith, nat_tests))

-- ASR by less than a word: zeros stand before what stays of a word without its sign
pub shifted-Asr : (w n : ℕ) → n < 16 → w < 32768 → shifted Asr w n ≡ w / 2 ^ n
unfolding shifted
shifted-Asr w n short small =
    let r : ℕ = 16 - n in
    let f : ℕ → ℕ = shifted_bit Asr w n in
    let none : bit 0 w ≡ 0 = sign w (omega arith) ∙ omega arith in
    let new = number_of-zeros n f (λ i h. grind (arith, nat_tests, none)) in
    let kept = number_of-first r n w (λ (i : ℕ). f (n + i)) (omega arith) (omega arith) (λ i h. Asr-bit w n i) in
    number_of-halves n r 16 0 (w / 2 ^ n) f (omega arith) new kept ∙ omega arith

-- and ones before what stays of a word with its sign
pub shifted-Asr-negative : (w n : ℕ) → n < 16 → 32768 ≤ w → w < 65536
    → shifted Asr w n ≡ 65536 - 2 ^ (16 - n) + w / 2 ^ n
unfolding shifted
shifted-Asr-negative w n short large fits =
    let r : ℕ = 16 - n in
    let all : n + r ≡ 16 = omega arith in
    let f : ℕ → ℕ = shifted_bit Asr w n in
    let one : bit 0 w ≡ 1 = sign w fits ∙ omega arith in
    let new = number_of-copies n 1 f (λ i h. grind (arith, nat_tests, one)) in
    let kept = number_of-first r n w (λ (i : ℕ). f (n + i)) (omega arith) fits (λ i h. Asr-bit w n i) in
    let power : 2 ^ n * 2 ^ r ≡ 65536 = sym (pow-add 2 n r) ∙ ap (λ (k : ℕ). 2 ^ k) all in
    let ones : (2 ^ n - 1) * 2 ^ r ≡ 65536 - 2 ^ r =
    one_less (2 ^ n - 1) (2 ^ n) (2 ^ r) (omega (arith, pow_pos n)) ∙ omega (arith, power) in
    number_of-halves n r 16 (2 ^ n - 1) (w / 2 ^ n) f all (omega (arith, new)) kept ∙ omega (arith, ones)

-- ASR by a word or more: the sign everywhere
pub shifted-Asr-past : (w n : ℕ) → 16 ≤ n → w < 65536 → shifted Asr w n ≡ w / 32768 * 65535
unfolding shifted
shifted-Asr-past w n long fits =
    omega (arith, number_of-copies 16 (w / 32768) (shifted_bit Asr w n) (λ i h. grind (arith, nat_tests, sign w fits)))

-- CSL: the first n bits, taken modulo sixteen, come in at the right
pub shifted-Csl : (w n : ℕ) → w < 65536 → shifted Csl w n ≡ w * 2 ^ (n % 16) % 65536 + w / 2 ^ (16 - n % 16)
unfolding shifted
shifted-Csl w n fits =
    let m : ℕ = n % 16 in
    let r : ℕ = 16 - m in
    let all : r + m ≡ 16 = omega arith in
    let f : ℕ → ℕ = shifted_bit Csl w n in
    let kept = number_of-last r m w f (omega arith) (λ i h. ap (λ (k : ℕ). bit k w) (omega arith)) in
    let back = number_of-first m r w (λ (i : ℕ). f (r + i)) (omega arith) fits
    (λ i h. ap (λ (k : ℕ). bit k w) (omega arith)) in
    number_of-halves r m 16 (w % 2 ^ r) (w / 2 ^ r) f all kept back ∙ omega (arith, moved_up w r m 16 all)

-- CSR is CSL by the rest of the sixteen places
pub shifted-Csr : (w n : ℕ) → shifted Csr w n ≡ shifted Csl w (16 - n % 16)
unfolding shifted
shifted-Csr w n =
    number_of-same 16 (shifted_bit Csr w n) (shifted_bit Csl w (16 - n % 16)) (λ i h. ap (λ (k : ℕ). bit (k % 16) w) (omega arith))

-- each bit of a shifted word is zero or one
shifted_bit-small : (kind : Shift) (w n i : ℕ) → shifted_bit kind w n i ≤ 1
shifted_bit-small Asl w n i = grind (arith, nat_tests, bit-small)
shifted_bit-small Asr w n i = grind (arith, nat_tests, bit-small)
shifted_bit-small Lsl w n i = bit-small (i + n) w
shifted_bit-small Lsr w n i = grind (arith, nat_tests, bit-small)
shifted_bit-small Csl w n i = bit-small ((i + n) % 16) w
shifted_bit-small Csr w n i = bit-small ((i + 16 - n % 16) % 16) w

-- so it is a word
pub shifted-below : (kind : Shift) (w n : ℕ) → shifted kind w n < 65536
unfolding shifted
shifted-below kind w n = number_of-below 16 (shifted_bit kind w n) (shifted_bit-small kind w n)

-- so the sums that make one fit
pub filled_below : (w n : ℕ) → n < 16 → 32768 ≤ w → w < 65536 → 65536 - 2 ^ (16 - n) + w / 2 ^ n < 65536
filled_below w n short large fits =
    omega (arith, shifted-Asr-negative w n short large fits, shifted-below Asr w n)

-- also of a rotation
pub turned_below : (w n : ℕ) → n < 16 → w < 65536 → w * 2 ^ n % 65536 + w / 2 ^ (16 - n) < 65536
turned_below w n short fits =
    let same : n % 16 ≡ n = omega arith in
    let turned = rw same at (shifted-Csl w n fits) in
    omega (arith, turned, shifted-below Csl w n)

-- the powers of two that a word has room for
pub power_bound : (n : ℕ) → n ≤ 16 → 2 ^ n ≤ 65536
power_bound n fits = pow-le-pow_right {n = 2} (omega arith) fits

-- what the power cites
pub ruleset powers = (power_bound, pow_pos, one_shl)

-- what the shifts cite
pub ruleset shifts = (
  shifted-Lsl,
  shifted-Lsl-past,
  shifted-Lsr,
  shifted-Lsr-past,
  shifted-Asl,
  shifted-Asl-past,
  shifted-Asr,
  shifted-Asr-negative,
  shifted-Asr-past,
  shifted-Csl,
  filled_below,
  turned_below,
)

-- what the rotation to the right cites
pub ruleset right_as_left = (shifted-Csr)
