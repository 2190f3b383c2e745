-- The word of an instruction: the same layout, written instead of read.
use Rattle.std.specs.Prelude.{ℕ, ◌+◌, ◌-◌, ◌*◌, ◌^◌, Bool, true, if◌then◌else◌}
use Rattle.hp_instr.specs.declared.instruction.Instr.{Instr}
use Rattle.hp_instr.specs.declared.instruction.Instr.TheVariants.{Pair, Shifted, Short, Immediate, Control, Memory, LoadCode, Branch, OnCode, Loop, Illegal}
use Rattle.hp_instr.specs.declared.instruction.Mode.{Mode}
use Rattle.hp_instr.specs.declared.instruction.Mode.TheVariants.{DbPlus, QPlus, QMinus, SMinus}

-- a number in the bits that end with this one
abbrev pub up_to : ℕ → ℕ → ℕ
up_to last n = n * 2 ^ (15 - last)

-- one in this bit where a choice was made, and zero where not
abbrev pub flag : ℕ → Bool → ℕ
flag k chosen = if chosen then 2 ^ (15 - k) else 0

-- a data operand in bits 7 to 15
abbrev pub mode_bits : Mode → ℕ
mode_bits (DbPlus d) = up_to 7 0b0 + up_to 15 d
mode_bits (QPlus d) = up_to 8 0b10 + up_to 15 d
mode_bits (QMinus d) = up_to 9 0b110 + up_to 15 d
mode_bits (SMinus d) = up_to 9 0b111 + up_to 15 d

-- the word of an instruction; an illegal one is its own word
unfoldable pub encoded : Instr → ℕ
encoded (Pair left right) = up_to 3 0 + up_to 9 left.code + up_to 15 right.code
encoded (Shifted kind count) = up_to 3 1 + up_to 9 kind + up_to 15 count
encoded (Short test back d) = up_to 3 1 + up_to 9 test + flag 10 back + up_to 15 d
encoded (Immediate which n) = up_to 3 2 + up_to 7 which + up_to 15 n
encoded (Control which n) = up_to 3 3 + up_to 7 which + up_to 15 n
encoded (Memory major second x i mode) = up_to 3 major + flag 4 x + flag 5 i + flag 6 second + mode_bits mode
encoded (LoadCode back d) = up_to 3 4 + flag 7 back + up_to 15 d
encoded (Loop modify back d) = up_to 3 5 + flag 4 modify + flag 7 back + up_to 15 d
encoded (Branch i back d) = up_to 3 12 + flag 5 i + flag 7 back + up_to 15 d
encoded (OnCode mask back d) = up_to 3 12 + flag 6 true + up_to 9 mask + flag 10 back + up_to 15 d
encoded (Illegal w) = w
