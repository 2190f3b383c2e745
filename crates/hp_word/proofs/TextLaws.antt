-- A number's text, in decimal or in octal, reads back as the number.
use Rattle.std.proofs.Common.{◌≡◌, ℕ, zero, suc, ◌+◌, ◌-◌, ◌*◌, ◌/◌, ◌%◌, ◌^◌, ◌<◌, Bool, true, false, List, [], ◌∷◌, ◌++◌, length, ℤ, pos, negsuc, neg_ℤ, refl, ap, sym, ◌∙◌, arith, length-append}
use Rattle.std.specs.Prelude.{◌||◌, unsigned_abs, int_lt}
use Rattle.std.specs.List.{list_all}
use Rattle.std.specs.Fmt.{decimal}
use Rattle.std.proofs.lemmas.Fmt.{decimal_by_steps}
use Rattle.std.proofs.lemmas.Int.{ints}
use Rattle.std.proofs.lemmas.Bool.Decides.{nat_tests}
use Rattle.std.proofs.lemmas.Nat.{mod-pow-add}
use Rattle.std.proofs.Math.Nat.{mod-one, mod-eq_of_lt}
use Rattle.hp_word.proofs.TextLemmas.{length-octal_text_of}
use Rattle.hp_word.proofs.WordLaws.{word_of-signed, double_of-signed}
use Rattle.hp_word.specs.declared.numbers.Number.TheVariants.{Value}
use Rattle.hp_word.specs.Words.{signed, signed_double}
use Rattle.hp_word.specs.Texts.{decimal_text_of, octal_text_of, is_digit, is_digits, value_after, digits_value, decimal_number, octal_number, decimal_digits, octal_digits, number}

-- one digit more at the end
value_after-append : (base n d : ℕ) (ds : List ℕ)
    → value_after base n (ds ++ d ∷ []) ≡ base * value_after base n ds + (d - 48)
unfolding value_after
value_after-append base n d [] = refl
value_after-append base n d (e ∷ ds) = value_after-append base (base * n + (e - 48)) d ds

-- digits and one digit more are digits
list_all-append : (p : ℕ → Bool) (ds : List ℕ) (d : ℕ) → list_all p ds ≡ true → p d ≡ true
    → list_all p (ds ++ d ∷ []) ≡ true
list_all-append p [] d all last = rw last refl
list_all-append p (e ∷ ds) d all last = grind (arith, nat_tests, list_all-append p ds d)

-- the decimal text of a number is digits, and they spell it
record Spells (n : ℕ) (ds : List ℕ) : Type 0 where
  some : 0 < length ds
  digits : list_all (is_digit 10) ds ≡ true
  value : digits_value 10 ds ≡ n

-- by induction on the digits
Spells-decimal : (n : ℕ) → n < 2 ^ 64 → Spells n (decimal n)
unfolding value_after
Spells-decimal = decimal_by_steps Spells
    (λ n small. record { some = omega arith; digits = grind (arith, nat_tests); value = omega arith })
    (λ n ds many tenth. record {
      some = omega (arith, length-append ds ((48 + n % 10) ∷ []));
      digits = list_all-append (is_digit 10) ds (48 + n % 10) tenth.digits (grind (arith, nat_tests));
      value = omega (arith, value_after-append 10 0 (48 + n % 10) ds, tenth.value);
    })

-- so it is made of digits
are_digits : (n : ℕ) (ds : List ℕ) → Spells n ds → is_digits 10 ds ≡ true
unfolding is_digits
are_digits n [] spells = absurd (omega (arith, spells.some))
are_digits n (d ∷ ds) spells = grind (arith, nat_tests, spells.digits)

-- digits alone are read as decimal
number-digits : (wide : Bool) (n : ℕ) (ds : List ℕ) → Spells n ds → number ds wide ≡ decimal_digits wide false ds
unfolding number
number-digits wide n [] spells = absurd (omega (arith, spells.some))
number-digits wide n (d ∷ ds) spells = grind (arith, nat_tests, spells.digits)

-- the number of digits, and of digits after a minus
read-digits : (wide : Bool) (n : ℕ) (ds : List ℕ) → Spells n ds → number ds wide ≡ decimal_number wide (pos n)
unfolding decimal_digits
read-digits wide n ds spells = number-digits wide n ds spells ∙ rw (are_digits n ds spells, spells.value) refl

-- after a minus
read-minus : (wide : Bool) (n : ℕ) (ds : List ℕ) → Spells n ds
    → number (45 ∷ ds) wide ≡ decimal_number wide (neg_ℤ (pos n))
unfolding number decimal_digits
read-minus wide n ds spells = rw (are_digits n ds spells, spells.value) refl

-- the decimal text of a number reads back
read-decimal_text_of : (wide : Bool) (z : ℤ) → unsigned_abs z < 2 ^ 64
    → number (decimal_text_of z) wide ≡ decimal_number wide z
read-decimal_text_of wide (pos n) small = read-digits wide n (decimal n) (Spells-decimal n small)
read-decimal_text_of wide (negsuc n) small = read-minus wide (suc n) (decimal (suc n)) (Spells-decimal (suc n) small)

-- a word's signed reading is small
signed-small : (w : ℕ) → w < 65536 → unsigned_abs (signed w) < 2 ^ 64
unfolding signed
signed-small w fits = grind (arith, ints, nat_tests)

-- and in the range of a word's text
signed-in_range : (w : ℕ) → w < 65536 → (int_lt (signed w) (negsuc 32767) || int_lt (pos 65535) (signed w)) ≡ false
unfolding signed
signed-in_range w fits = grind (arith, ints, nat_tests)

-- a double's signed reading is small
signed_double-small : (d : ℕ) → d < 4294967296 → unsigned_abs (signed_double d) < 2 ^ 64
unfolding signed_double
signed_double-small d fits = grind (arith, ints, nat_tests)

-- and in the range of a double's text
signed_double-in_range : (d : ℕ) → d < 4294967296
    → (int_lt (signed_double d) (negsuc 2147483647) || int_lt (pos 2147483647) (signed_double d)) ≡ false
unfolding signed_double
signed_double-in_range d fits = grind (arith, ints, nat_tests)

-- so the text of a word reads back as the word
pub number-decimal_text_of : (w : ℕ) → w < 65536 → number (decimal_text_of (signed w)) false ≡ Value w
unfolding decimal_number
number-decimal_text_of w fits =
    read-decimal_text_of false (signed w) (signed-small w fits)
    ∙ rw (signed-in_range w fits, word_of-signed w fits) refl

-- and that of a double as the double
pub number-decimal_text_of-double : (d : ℕ) → d < 4294967296 → number (decimal_text_of (signed_double d)) true ≡ Value d
unfolding decimal_number
number-decimal_text_of-double d fits =
    read-decimal_text_of true (signed_double d) (signed_double-small d fits)
    ∙ rw (signed_double-in_range d fits, double_of-signed d fits) refl

-- an octal text is made of octal digits
octal_digits-all : (k n : ℕ) → list_all (is_digit 8) (octal_text_of k n) ≡ true
unfolding octal_text_of
octal_digits-all zero n = refl
octal_digits-all (suc k) n =
    list_all-append (is_digit 8) (octal_text_of k (n / 8)) (48 + n % 8) (octal_digits-all k (n / 8))
    (grind (arith, nat_tests))

-- which spell what three bits a digit have room for
digits_value-octal : (k n : ℕ) → digits_value 8 (octal_text_of k n) ≡ n % 2 ^ (3 * k)
unfolding octal_text_of value_after
digits_value-octal zero n = sym (mod-one n)
digits_value-octal (suc k) n =
    let last = value_after-append 8 0 (48 + n % 8) (octal_text_of k (n / 8)) in
    let more : 2 ^ (3 * suc k) ≡ 2 ^ (3 * k + 3) = ap (λ (m : ℕ). 2 ^ m) (omega arith) in
    rw more (omega (arith, last, digits_value-octal k (n / 8), mod-pow-add n (3 * k) 3))

-- so they are digits, where there are any
octal_digits-are : (k n : ℕ) → 0 < k → is_digits 8 (octal_text_of k n) ≡ true
unfolding is_digits
octal_digits-are k n some = grind (arith, nat_tests, octal_digits-all k n, length-octal_text_of k n)

-- the octal text of a word reads back after `%`
pub number-octal_text_of : (w : ℕ) → w < 65536 → number (37 ∷ octal_text_of 6 w) false ≡ Value w
unfolding number octal_digits octal_number
number-octal_text_of w fits =
    let value : digits_value 8 (octal_text_of 6 w) ≡ w = digits_value-octal 6 w ∙ mod-eq_of_lt (omega arith) in
    rw (octal_digits-are 6 w (omega arith), value) (grind (arith, nat_tests))

-- and that of a double
pub number-octal_text_of-double : (d : ℕ) → d < 4294967296 → number (37 ∷ octal_text_of 11 d) true ≡ Value d
unfolding number octal_digits octal_number
number-octal_text_of-double d fits =
    let value : digits_value 8 (octal_text_of 11 d) ≡ d = digits_value-octal 11 d ∙ mod-eq_of_lt (omega arith) in
    rw (octal_digits-are 11 d (omega arith), value) (grind (arith, nat_tests))
