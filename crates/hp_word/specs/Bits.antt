-- Shifts, rotations and fields of a word, bit by bit. Bit 0 is the most significant, bit 15 the least.
use Rattle.std.specs.Prelude.{ℕ, zero, suc, ◌+◌, ◌-◌, ◌*◌, ◌/◌, ◌%◌, ◌^◌, ◌==◌, ◌&&◌, nat_lt, nat_le, if◌then◌else◌}
use Rattle.hp_word.specs.declared.shifts.Shift.{Shift}
use Rattle.hp_word.specs.declared.shifts.Shift.TheVariants.{Asl, Asr, Lsl, Lsr, Csl, Csr}

-- bit i of a word, zero or one; past bit 15 there are zeros
unfoldable pub bit : ℕ → ℕ → ℕ
bit i w = if nat_lt i 16 then w / 2 ^ (15 - i) % 2 else 0

-- the number that the first k of these bits make, the first of them the most significant
unfoldable pub number_of : ℕ → (ℕ → ℕ) → ℕ
number_of zero bits = 0
number_of (suc k) bits = 2 * number_of k bits + bits k

-- bit i of a word that was shifted by n places
abbrev pub shifted_bit : Shift → ℕ → ℕ → ℕ → ℕ
-- ASL keeps the sign and shifts the other bits, zeros coming in
shifted_bit Asl w n i = if i == 0 then bit 0 w else bit (i + n) w
-- ASR brings in copies of the sign
shifted_bit Asr w n i = if nat_lt i n then bit 0 w else bit (i - n) w
-- LSL and LSR bring in zeros
shifted_bit Lsl w n i = bit (i + n) w
shifted_bit Lsr w n i = if nat_lt i n then 0 else bit (i - n) w
-- CSL and CSR rotate: what goes out at one end comes in at the other
shifted_bit Csl w n i = bit ((i + n) % 16) w
shifted_bit Csr w n i = bit ((i + 16 - n % 16) % 16) w

-- a word shifted by n places
unfoldable pub shifted : Shift → ℕ → ℕ → ℕ
shifted kind w n = number_of 16 (shifted_bit kind w n)

-- the field of n bits from bit s on, as a number
unfoldable pub field : ℕ → ℕ → ℕ → ℕ
field w s n = number_of n (λ i. bit (s + i) w)

-- bit i of a word whose n bits from bit s on are the last n bits of v
abbrev pub bit_with_field : ℕ → ℕ → ℕ → ℕ → ℕ → ℕ
bit_with_field w s n v i = if nat_le s i && nat_lt i (s + n) then bit (16 - n + (i - s)) v else bit i w

-- that word
unfoldable pub with_field : ℕ → ℕ → ℕ → ℕ → ℕ
with_field w s n v = number_of 16 (bit_with_field w s n v)
