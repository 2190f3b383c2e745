-- The rows of majors 1 and 2, and those of major 3 that work on X and on the number of words: shifts, short branches,
-- immediate numbers, fields, SPLT and JOIN, ROOM, ADDS and SUBS.
use Rattle.std.specs.Prelude.{ℕ, ◌+◌, ◌-◌, ◌%◌, Bool, ◌==◌, not, nat_le, int_lt, bit_and, bit_or, bit_xor, length, replicate, Option, None, Some, Ok, Err, true, false, if◌then◌else◌}
use Rattle.hp_word.specs.declared.arithmetic.Arith.{Arith}
use Rattle.hp_word.specs.declared.arithmetic.Quotient.{Quotient}
use Rattle.hp_word.specs.declared.arithmetic.Code.{Code}
use Rattle.hp_word.specs.declared.arithmetic.Code.TheVariants.{Greater, Less, Equal}
use Rattle.hp_word.specs.declared.endings.Trap.TheVariants.{StackOverflow, IntegerOverflow, DivideByZero, Mode, Illegal}
use Rattle.hp_word.specs.declared.shifts.Shift.{Shift}
use Rattle.hp_word.specs.declared.shifts.Shift.TheVariants.{Asl, Asr, Lsl, Lsr, Csl, Csr}
use Rattle.hp_word.specs.Bits.{shifted, field, with_field}
use Rattle.hp_word.specs.Words.{signed, added, subtracted, multiplied, divided, words_compared, word_code}
use Rattle.hp_instr.specs.Bits.{bits}
use Rattle.hp_instr.specs.Fields.{field_length}
use Rattle.hp_session.specs.State.{Machine, Outcome, word, taking, without, instead, pushing, pushing_all, with_x, with_code, wrapped, branching, deleted}
use Rattle.hp_session.specs.Results.{settled, keeping_carry, coded}

-- Major 1

-- the shift with each code
unfoldable pub shift_of : ℕ → Shift
shift_of kind =
    if kind == 0 then Asl else
    if kind == 1 then Asr else
    if kind == 2 then Lsl else
    if kind == 3 then Lsr else
    if kind == 4 then Csl else Csr

-- A shifted by a count
unfoldable pub shifting : ℕ → ℕ → Machine → Outcome
shifting kind count m = taking 1 m (Ok (coded 1 (shifted (shift_of kind) (word 0 m) count) m))

-- IABZ, DABZ: A becomes a word; a branch where that is 0
unfoldable pub branch_on_top : ℕ → Bool → ℕ → Machine → Outcome
branch_on_top w back d m = Ok (branching (w == 0) back d (instead 1 w m))

-- IXBZ, DXBZ: X becomes a word; a branch where that is 0
unfoldable pub branch_on_x : ℕ → Bool → ℕ → Machine → Outcome
branch_on_x x back d m = Ok (branching (x == 0) back d (with_x x m))

-- where X stands to the range from B to A, signed: within it CCE, below it CCL, above it CCG
unfoldable pub range_code : ℕ → ℕ → ℕ → Code
range_code x b a =
    if int_lt (signed x) (signed b) then Less else
    if int_lt (signed a) (signed x) then Greater else Equal

-- whether a code is CCE
abbrev pub is_equal : Code → Bool
is_equal Equal = true
is_equal _ = false

-- CPRB: both words are deleted; a branch where X is within the range
unfoldable pub branch_on_range : Bool → ℕ → Machine → Outcome
branch_on_range back d m = by (range_code m.regs.x (word 1 m) (word 0 m)) where
  by : Code → Outcome
  by code = Ok (branching (is_equal code) back d (with_code code (without 2 m)))

-- BRO, BRE: A is deleted; a branch where it is odd, where it is even
unfoldable pub branch_on_parity : ℕ → Bool → ℕ → Machine → Outcome
branch_on_parity parity back d m = Ok (branching (word 0 m % 2 == parity) back d (without 1 m))

-- the short branch with each code
unfoldable pub short_branch : ℕ → Bool → ℕ → Machine → Outcome
short_branch test back d m =
    if test == 0o10 then taking 1 m (branch_on_top (wrapped (word 0 m + 1)) back d m) else  -- IABZ
    if test == 0o11 then taking 1 m (branch_on_top (wrapped (word 0 m + 65535)) back d m) else  -- DABZ
    if test == 0o12 then branch_on_x (wrapped (m.regs.x + 1)) back d m else  -- IXBZ
    if test == 0o13 then branch_on_x (wrapped (m.regs.x + 65535)) back d m else  -- DXBZ
    if test == 0o14 then taking 2 m (branch_on_range back d m) else  -- CPRB
    if test == 0o15 then taking 1 m (branch_on_parity 1 back d m) else  -- BRO
    if test == 0o16 then taking 1 m (branch_on_parity 0 back d m) else  -- BRE
    if test == 0o17 then Ok (branching m.regs.carry back d m) else  -- BCY
    if test == 0o20 then Ok (branching (not m.regs.carry) back d m) else  -- BNCY
    if test == 0o21 then Ok (branching m.regs.overflow back d m) else  -- BOV
    if test == 0o22 then Ok (branching (not m.regs.overflow) back d m) else  -- BNOV
    Err Illegal

-- Major 2

-- SPLT, JOIN: from whole mode to split mode and back
abbrev pub split_mode : Machine → Outcome
split_mode m = if m.split then Err Mode else Ok (record m { split = true })

abbrev pub joined_mode : Machine → Outcome
joined_mode m = if m.split then Ok (record m { split = false }) else Err Mode

-- minus n
abbrev pub minus : ℕ → ℕ
minus n = wrapped (65536 - n)

-- CMPI, CMPN: A against a word; it is deleted
unfoldable pub compared_with : ℕ → Machine → Outcome
compared_with n m = taking 1 m (Ok (with_code (words_compared (word 0 m) n) (without 1 m)))

-- ADDI, SUBI, MPYI: an operation on A and n; the carry stays
unfoldable pub with_number : (ℕ → ℕ → Arith) → ℕ → Machine → Outcome
with_number operation n m = taking 1 m (settled 1 (keeping_carry m (operation (word 0 m) n)) m)

-- DIVI: the quotient of A and n alone, and its code; the carry stays
abbrev pub quotient_alone : Option Quotient → Machine → Outcome
quotient_alone None m = Err DivideByZero
quotient_alone (Some q) m =
    if q.overflow then Err IntegerOverflow
    else Ok (record (instead 1 q.quotient m) { regs = record m.regs { overflow = false; code = word_code q.quotient } })

unfoldable pub divided_by : ℕ → Machine → Outcome
divided_by n m = taking 1 m (quotient_alone (divided (word 0 m) n) m)

-- EXF: the field of A that starts at the bit in n's left four bits
unfoldable pub field_taken : ℕ → Machine → Outcome
field_taken n m = taking 1 m (Ok (coded 1 (field (word 0 m) (bits 8 11 n) (field_length n)) m))

-- DPF: A put into that field of B, and deleted
unfoldable pub field_put : ℕ → Machine → Outcome
field_put n m = taking 2 m (Ok (coded 2 (with_field (word 1 m) (bits 8 11 n) (field_length n) (word 0 m)) m))

-- ANDI, ORI, XORI: the bits of A and n
unfoldable pub bits_with : (ℕ → ℕ → ℕ) → ℕ → Machine → Outcome
bits_with operation n m = taking 1 m (Ok (coded 1 (operation (word 0 m) n) m))

-- the row of each code of major 2
unfoldable pub immediate_row : ℕ → ℕ → Machine → Outcome
immediate_row which n m =
    if which == 0 then (if n == 1 then split_mode m else joined_mode m) else  -- SPLT, JOIN
    if which == 1 then pushing n m else  -- LDI
    if which == 2 then Ok (with_x n m) else  -- LDXI
    if which == 3 then compared_with n m else  -- CMPI
    if which == 4 then with_number added n m else  -- ADDI
    if which == 5 then with_number subtracted n m else  -- SUBI
    if which == 6 then with_number multiplied n m else  -- MPYI
    if which == 7 then divided_by n m else  -- DIVI
    if which == 8 then pushing (minus n) m else  -- LDNI
    if which == 9 then Ok (with_x (minus n) m) else  -- LDXN
    if which == 10 then compared_with (minus n) m else  -- CMPN
    if which == 11 then field_taken n m else  -- EXF
    if which == 12 then field_put n m else  -- DPF
    if which == 13 then bits_with bit_and n m else  -- ANDI
    if which == 14 then bits_with bit_or n m else  -- ORI
    bits_with bit_xor n m  -- XORI

-- Major 3, codes 4 to 8

-- there must be room for n more words; nothing changes
abbrev pub having_room : ℕ → Machine → Outcome
having_room n m = if nat_le (length m.stack + n) m.stack_limit then Ok m else Err StackOverflow

-- ROOM: for n words, or where n is 0 for the number in A, which is deleted
unfoldable pub roomy : ℕ → Machine → Outcome
roomy n m = if n == 0 then taking 1 m (having_room (word 0 m) (without 1 m)) else having_room n m

-- ADXI, SBXI: X plus or minus n; ADDS: n zero words; SUBS: n words deleted
unfoldable pub count_row : ℕ → ℕ → Machine → Outcome
count_row which n m =
    if which == 4 then Ok (with_x (wrapped (m.regs.x + n)) m) else  -- ADXI
    if which == 5 then Ok (with_x (wrapped (m.regs.x + 65536 - n)) m) else  -- SBXI
    if which == 6 then roomy n m else  -- ROOM
    if which == 7 then pushing_all (replicate n 0) m else  -- ADDS
    deleted n m  -- SUBS
