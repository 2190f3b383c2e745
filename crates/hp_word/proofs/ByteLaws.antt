-- The halves of a word, and of a double, are read as they were put.
use Rattle.std.proofs.Common.{◌≡◌, ℕ, ◌+◌, ◌%◌, ◌<◌, arith}
use Rattle.std.proofs.lemmas.Bool.Decides.{nat_tests}
use Rattle.hp_word.specs.Bytes.{byte_at, with_byte, double, high_word, low_word}

-- a byte of a word is a byte
pub byte_at-below : (address w : ℕ) → w < 65536 → byte_at address w < 256
unfolding byte_at
byte_at-below address w word = grind (arith, nat_tests)

-- a word with another byte is a word
pub with_byte-below : (address byte w : ℕ) → byte < 256 → w < 65536 → with_byte address byte w < 65536
unfolding with_byte
with_byte-below address byte w small word = grind (arith, nat_tests)

-- the byte that was put is there
pub byte_at-with_byte : (address byte w : ℕ) → byte < 256 → byte_at address (with_byte address byte w) ≡ byte
unfolding byte_at with_byte
byte_at-with_byte address byte w small = grind (arith, nat_tests)

-- and the other one as it was
pub byte_at-with_byte-other : (address other byte w : ℕ) → byte < 256 → address % 2 + other % 2 ≡ 1
    → byte_at other (with_byte address byte w) ≡ byte_at other w
unfolding byte_at with_byte
byte_at-with_byte-other address other byte w small apart = grind (arith, nat_tests)

-- the two words of a double make it again
pub double-words : (d : ℕ) → double (high_word d) (low_word d) ≡ d
unfolding double high_word low_word
double-words d = omega arith

-- and are the words that it was made of
pub high_word-double : (high low : ℕ) → low < 65536 → high_word (double high low) ≡ high
unfolding double high_word
high_word-double high low word = omega arith

-- and the low one
pub low_word-double : (high low : ℕ) → low < 65536 → low_word (double high low) ≡ low
unfolding double low_word
low_word-double high low word = omega arith
