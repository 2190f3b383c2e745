-- Which codes, and which numbers with them, the words of each major may have.
use Rattle.std.specs.Prelude.{◌==◌, ◌||◌, ℕ, ◌+◌, Bool, nat_le, if◌then◌else◌}
use Rattle.hp_instr.specs.Bits.{bits}
use Rattle.hp_instr.specs.Tables.{is_listed, stack_operations, shifts, short_branches, window_operations, immediates, controls, first_references, second_references}

-- an operation of a pair
unfoldable pub is_op : ℕ → Bool
is_op code = is_listed stack_operations code

-- a shift of major 1
unfoldable pub is_shift : ℕ → Bool
is_shift code = is_listed shifts code

-- a short branch of major 1
unfoldable pub is_short_branch : ℕ → Bool
is_short_branch code = is_listed short_branches code

-- the length of a field whose place is given by eight bits: the right four bits, 0 meaning sixteen
abbrev pub field_length : ℕ → ℕ
field_length n = if bits 12 15 n == 0 then 16 else bits 12 15 n

-- a field that lies within the word: it starts at the bit that the left four of eight bits give, and ends within sixteen
abbrev pub is_field : ℕ → Bool
is_field n = nat_le (bits 8 11 n + field_length n) 16

-- a code of major 2 with its number: code 0 is SPLT or JOIN by the number, EXF and DPF have a field, the others any number
unfoldable pub is_immediate : ℕ → ℕ → Bool
is_immediate code n =
    if code == 0 then is_listed window_operations n else
    if code == 11 || code == 12 then is_field n else
    is_listed immediates code

-- a code of major 3 with its number: MOVE, MVB and CMPB have 0 for a source in the data and 1 for one in the code, MVBW
-- has the letters of its class, SCW and SCU have 0, the others any number
unfoldable pub is_control : ℕ → ℕ → Bool
is_control code n =
    if code == 9 || code == 10 || code == 14 then n == 0 || n == 1 else
    if code == 11 then n == 1 || n == 2 || n == 3 || n == 6 || n == 7 else
    if code == 12 || code == 13 then n == 0 else
    is_listed controls code

-- a major of 4 to 15 that has an operation on a word in memory, with bit 6 zero or one
unfoldable pub is_reference : ℕ → Bool → Bool
is_reference major second = if second then is_listed second_references major else is_listed first_references major
