-- Words and their signed readings lead to each other, and what an operation leaves is a word.
use Rattle.std.proofs.Common.{◌≡◌, ℕ, ◌<◌, false, ℤ, pos, negsuc, ◌+ℤ◌, arith}
use Rattle.std.proofs.lemmas.Int.{ints}
use Rattle.std.proofs.lemmas.Bool.Decides.{nat_tests}
use Rattle.hp_word.specs.Words.{signed, signed_double, word_of, double_of, is_out_of_word, is_out_of_double, word_result, added}

-- a number modulo 65,536 is a word
pub word_of-below : (z : ℤ) → word_of z < 65536
unfolding word_of
word_of-below (pos n) = omega arith
word_of-below (negsuc n) = omega arith

-- and modulo 4,294,967,296 a double
pub double_of-below : (z : ℤ) → double_of z < 4294967296
unfolding double_of
double_of-below (pos n) = omega arith
double_of-below (negsuc n) = omega arith

-- the word of a word's signed reading is the word
pub word_of-signed : (w : ℕ) → w < 65536 → word_of (signed w) ≡ w
unfolding word_of signed
word_of-signed w fits = grind (arith, ints, nat_tests)

-- and of a double
pub double_of-signed : (d : ℕ) → d < 4294967296 → double_of (signed_double d) ≡ d
unfolding double_of signed_double
double_of-signed d fits = grind (arith, ints, nat_tests)

-- and a number in the signed range is the reading of its word
pub signed-word_of : (z : ℤ) → is_out_of_word z ≡ false → signed (word_of z) ≡ z
unfolding word_of signed is_out_of_word
signed-word_of (pos n) within = grind (arith, ints, nat_tests)
signed-word_of (negsuc n) within = grind (arith, ints, nat_tests)

-- in the range of a double
pub signed-double_of : (z : ℤ) → is_out_of_double z ≡ false → signed_double (double_of z) ≡ z
unfolding double_of signed_double is_out_of_double
signed-double_of (pos n) within = grind (arith, ints, nat_tests)
signed-double_of (negsuc n) within = grind (arith, ints, nat_tests)

-- so a sum that does not overflow is the exact sum
pub signed-added : (b a : ℕ) → (added b a).overflow ≡ false → signed (added b a).value ≡ signed b +ℤ signed a
unfolding added word_result
signed-added b a within = signed-word_of (signed b +ℤ signed a) within
