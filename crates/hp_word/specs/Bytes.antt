-- The bytes of words, and the words of doubles.
use Rattle.std.specs.Prelude.{ℕ, ◌+◌, ◌*◌, ◌/◌, ◌%◌, ◌==◌, if◌then◌else◌}

-- the byte at a byte address, of the word that holds it: the left half at an even address, and else the right half
unfoldable pub byte_at : ℕ → ℕ → ℕ
byte_at address w = if address % 2 == 0 then w / 256 else w % 256

-- the word with this byte at a byte address in it; its other half stays
unfoldable pub with_byte : ℕ → ℕ → ℕ → ℕ
with_byte address byte w = if address % 2 == 0 then 256 * byte + w % 256 else w / 256 * 256 + byte

-- a double, its high word first
unfoldable pub double : ℕ → ℕ → ℕ
double high low = 65536 * high + low

-- its high word
unfoldable pub high_word : ℕ → ℕ
high_word d = d / 65536

-- its low word
unfoldable pub low_word : ℕ → ℕ
low_word d = d % 65536
