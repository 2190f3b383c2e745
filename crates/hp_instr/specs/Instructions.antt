-- The instruction that each word has, by its major, bits 0 to 3.
use Rattle.std.specs.Prelude.{◌==◌, ◌&&◌, ◌||◌, ℕ, if◌then◌else◌}
use Rattle.hp_instr.specs.declared.instruction.Instr.{Instr}
use Rattle.hp_instr.specs.declared.instruction.Instr.TheVariants.{Pair, Shifted, Short, Immediate, Control, Memory, LoadCode, Branch, OnCode, Loop, Illegal}
use Rattle.hp_instr.specs.declared.instruction.Mode.{Mode}
use Rattle.hp_instr.specs.declared.instruction.Mode.TheVariants.{DbPlus, QPlus, QMinus, SMinus}
use Rattle.hp_instr.specs.declared.instruction.Op.{Op}
use Rattle.hp_instr.specs.Bits.{bits, bit}
use Rattle.hp_instr.specs.Fields.{is_op, is_shift, is_short_branch, is_immediate, is_control, is_reference}

-- the operation with a code
abbrev pub op : ℕ → Op
op code = record { code = code }

-- major 0: the left operation in bits 4 to 9, the right one in bits 10 to 15; a code that is not listed makes the word illegal
unfoldable pub pair : ℕ → Instr
pair w =
    if is_op (bits 4 9 w) && is_op (bits 10 15 w)
    then Pair (op (bits 4 9 w)) (op (bits 10 15 w))
    else Illegal w

-- major 1: bit 4 zero and the code in bits 5 to 9. A shift has its count in bits 10 to 15; a branch has 1 in bit 10
-- where it goes back, and its displacement in bits 11 to 15
unfoldable pub shift_or_branch : ℕ → Instr
shift_or_branch w =
    if bit 4 w then Illegal w else
    if is_shift (bits 5 9 w) then Shifted (bits 5 9 w) (bits 10 15 w) else
    if is_short_branch (bits 5 9 w) then Short (bits 5 9 w) (bit 10 w) (bits 11 15 w) else
    Illegal w

-- major 2: the code in bits 4 to 7, its number in bits 8 to 15
unfoldable pub immediate : ℕ → Instr
immediate w =
    if is_immediate (bits 4 7 w) (bits 8 15 w) then Immediate (bits 4 7 w) (bits 8 15 w) else Illegal w

-- major 3: the code in bits 4 to 7, its number in bits 8 to 15
unfoldable pub control : ℕ → Instr
control w =
    if is_control (bits 4 7 w) (bits 8 15 w) then Control (bits 4 7 w) (bits 8 15 w) else Illegal w

-- a data operand, bits 7 to 15: 0 and eight bits above DB, 10 and seven bits above Q, 110 and six bits below Q,
-- 111 and six bits below S
unfoldable pub mode : ℕ → Mode
mode w =
    if bits 7 7 w == 0b0 then DbPlus (bits 8 15 w) else
    if bits 7 8 w == 0b10 then QPlus (bits 9 15 w) else
    if bits 7 9 w == 0b110 then QMinus (bits 10 15 w) else
    SMinus (bits 10 15 w)

-- LOAD of a code word: bits 4 and 5 zero, bit 7 for back, the displacement in bits 8 to 15
unfoldable pub load_code : ℕ → Instr
load_code w = if bit 4 w || bit 5 w then Illegal w else LoadCode (bit 7 w) (bits 8 15 w)

-- TBA, and with bit 4 MTBA: bit 5 zero, the target as in BR
unfoldable pub loop_branch : ℕ → Instr
loop_branch w = if bit 5 w then Illegal w else Loop (bit 4 w) (bit 7 w) (bits 8 15 w)

-- BR: bit 4 zero, bit 5 for indirection, bit 7 for back, the displacement in bits 8 to 15
unfoldable pub branch : ℕ → Instr
branch w = if bit 4 w then Illegal w else Branch (bit 5 w) (bit 7 w) (bits 8 15 w)

-- BCC: bits 4 and 5 zero, the mask in bits 7 to 9, bit 10 for back, the displacement in bits 11 to 15
unfoldable pub on_code : ℕ → Instr
on_code w = if bit 4 w || bit 5 w then Illegal w else OnCode (bits 7 9 w) (bit 10 w) (bits 11 15 w)

-- an operation on a word in memory: bit 6 tells two of a major apart, bit 4 is indexing, bit 5 indirection
unfoldable pub memory : ℕ → Instr
memory w = Memory (bits 0 3 w) (bit 6 w) (bit 4 w) (bit 5 w) (mode w)

-- the words of majors 4 to 15 that have no operation on a word in memory
unfoldable pub no_memory : ℕ → Instr
no_memory w =
    if bits 0 3 w == 4 then load_code w else
    if bits 0 3 w == 5 then loop_branch w else
    if bits 0 3 w == 12 then (if bit 6 w then on_code w else branch w) else
    Illegal w

-- majors 4 to 15
unfoldable pub reference : ℕ → Instr
reference w = if is_reference (bits 0 3 w) (bit 6 w) then memory w else no_memory w

-- the instruction of a word, which is illegal where it is none
unfoldable pub instruction : ℕ → Instr
instruction w =
    if bits 0 3 w == 0 then pair w else
    if bits 0 3 w == 1 then shift_or_branch w else
    if bits 0 3 w == 2 then immediate w else
    if bits 0 3 w == 3 then control w else
    reference w
