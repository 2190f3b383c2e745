-- What a number is whose bits are those of a word, or zeros, or copies of one bit.
use Rattle.std.proofs.Common.{◌≡◌, ℕ, zero, suc, ◌+◌, ◌-◌, ◌*◌, ◌/◌, ◌%◌, ◌^◌, ◌≤◌, ◌<◌, refl, ap, sym, subst, ◌∙◌, arith, add-zero}
use Rattle.std.proofs.Math.Nat.{add-suc, pow-suc, mul_assoc, mod-one, mod-eq_of_lt, div-one, div-lt_iff_lt-mul}
use Rattle.std.proofs.lemmas.Nat.{mod-pow-add, shr-shr, pow-add, pow_pos}
use Rattle.std.proofs.lemmas.Bool.Decides.{nat_tests}
use Rattle.hp_word.specs.Bits.{bit, number_of}

-- a bit that has r others to its right
pub bit-at : (i r w : ℕ) → i + r ≡ 15 → bit i w ≡ w / 2 ^ r % 2
unfolding bit
bit-at i r w place =
    let right : 15 - i ≡ r = omega arith in
    rw right (grind (arith, nat_tests))

-- past bit 15 there are zeros
pub bit-past : (i w : ℕ) → 16 ≤ i → bit i w ≡ 0
unfolding bit
bit-past i w past = grind (arith, nat_tests)

-- more bits at the end: the first ones move up by as many places
pub number_of-add : (j k : ℕ) (f : ℕ → ℕ) → number_of (j + k) f ≡ number_of j f * 2 ^ k + number_of k (λ i. f (j + i))
unfolding number_of
number_of-add j zero f = rw add-zero (omega arith)
number_of-add j (suc k) f =
    rw (add-suc, pow-suc, sym (mul_assoc (number_of j f) (2 ^ k) 2)) (omega (arith, number_of-add j k f))

-- so a number of m bits is put together from its first j and its last k
pub number_of-halves : (j k m a b : ℕ) (f : ℕ → ℕ) → j + k ≡ m → number_of j f ≡ a → number_of k (λ i. f (j + i)) ≡ b
    → number_of m f ≡ a * 2 ^ k + b
number_of-halves j k m a b f all first last = rw (sym all, number_of-add j k f, first, last)

-- equal bits make equal numbers
pub number_of-same : (k : ℕ) (f g : ℕ → ℕ) → ((i : ℕ) → i < k → f i ≡ g i) → number_of k f ≡ number_of k g
unfolding number_of
number_of-same zero f g same = refl
number_of-same (suc k) f g same =
    omega (arith, number_of-same k f g (λ i h. same i (omega arith)), same k (omega arith))

-- zeros make zero
pub number_of-zeros : (k : ℕ) (f : ℕ → ℕ) → ((i : ℕ) → i < k → f i ≡ 0) → number_of k f ≡ 0
unfolding number_of
number_of-zeros zero f none = refl
number_of-zeros (suc k) f none =
    omega (arith, number_of-zeros k f (λ i h. none i (omega arith)), none k (omega arith))

-- copies of one bit make all ones, or zero
pub number_of-copies : (k b : ℕ) (f : ℕ → ℕ) → ((i : ℕ) → i < k → f i ≡ b) → number_of k f + b ≡ b * 2 ^ k
unfolding number_of
number_of-copies zero b f same = omega arith
number_of-copies (suc k) b f same =
    rw (pow-suc, sym (mul_assoc b (2 ^ k) 2))
    (omega (arith, number_of-copies k b f (λ i h. same i (omega arith)), same k (omega arith)))

-- k bits in a row of a word, with r others to their right, make that part of the word
pub number_of-part : (k s r w : ℕ) (f : ℕ → ℕ) → s + k + r ≡ 16 → ((i : ℕ) → i < k → f i ≡ bit (s + i) w)
    → number_of k f ≡ w / 2 ^ r % 2 ^ k
unfolding number_of
number_of-part zero s r w f place same = sym (mod-one (w / 2 ^ r))
number_of-part (suc k) s r w f place same =
    let before = number_of-part k s (r + 1) w f (omega arith) (λ i h. same i (omega arith)) in
    let last = same k (omega arith) ∙ bit-at (s + k) r w (omega arith) in
    let more : 2 ^ suc k ≡ 2 ^ (k + 1) = ap (λ (n : ℕ). 2 ^ n) (omega arith) in
    let parted = rw (shr-shr w r 1) at (mod-pow-add (w / 2 ^ r) k 1) in
    rw more (omega (arith, before, last, parted))

-- the bits above the last r make the quotient
pub quotient_below : (w k r m : ℕ) → k + r ≡ m → w < 2 ^ m → w / 2 ^ r % 2 ^ k ≡ w / 2 ^ r
quotient_below w k r m all fits =
    let power : 2 ^ m ≡ 2 ^ k * 2 ^ r = ap (λ (n : ℕ). 2 ^ n) (sym all) ∙ pow-add 2 k r in
    let below : w < 2 ^ k * 2 ^ r = subst (λ (x : ℕ). w < x) power fits in
    mod-eq_of_lt ((div-lt_iff_lt-mul {k = 2 ^ r} {x = w} {y = 2 ^ k} (pow_pos r)).1 below)

-- the first k bits of a word, with r others to their right
pub number_of-first : (k r w : ℕ) (f : ℕ → ℕ) → k + r ≡ 16 → w < 65536 → ((i : ℕ) → i < k → f i ≡ bit i w)
    → number_of k f ≡ w / 2 ^ r
number_of-first k r w f all fits same =
    number_of-part k 0 r w f (omega arith) (λ i h. same i h ∙ ap (λ (n : ℕ). bit n w) (omega arith))
    ∙ quotient_below w k r 16 all fits

-- the last k bits of a word, from bit s on
pub number_of-last : (k s w : ℕ) (f : ℕ → ℕ) → s + k ≡ 16 → ((i : ℕ) → i < k → f i ≡ bit (s + i) w)
    → number_of k f ≡ w % 2 ^ k
number_of-last k s w f all same =
    number_of-part k s 0 w f (omega arith) same ∙ ap (λ (n : ℕ). n % 2 ^ k) (div-one w)

-- a bit is zero or one
pub bit-small : (i w : ℕ) → bit i w ≤ 1
unfolding bit
bit-small i w = grind (arith, nat_tests)

-- so k bits make a number below the k-th power of two
pub number_of-below : (k : ℕ) (f : ℕ → ℕ) → ((i : ℕ) → f i ≤ 1) → number_of k f < 2 ^ k
unfolding number_of
number_of-below zero f small = omega arith
number_of-below (suc k) f small = omega (arith, pow-suc 2 k, number_of-below k f small, small k)
