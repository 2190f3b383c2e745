-- The instructions that words have: by a word, and by their fields.
use Rattle.std.specs.Prelude.{◌≡◌, ◌&&◌, ℕ, ◌^◌, ◌<◌, Bool, true, false, nat_lt}
use Rattle.hp_instr.specs.declared.instruction.Instr.{Instr}
use Rattle.hp_instr.specs.declared.instruction.Instr.TheVariants.{Pair, Shifted, Short, Immediate, Control, Memory, LoadCode, Branch, OnCode, Loop, Illegal}
use Rattle.hp_instr.specs.declared.instruction.Mode.{Mode}
use Rattle.hp_instr.specs.declared.instruction.Mode.TheVariants.{DbPlus, QPlus, QMinus, SMinus}
use Rattle.hp_instr.specs.Fields.{is_op, is_shift, is_short_branch, is_immediate, is_control, is_reference}
use Rattle.hp_instr.specs.Instructions.{instruction}

-- some word has this instruction
abbrev pub HasWord : Instr → Type 0
HasWord i = (w : ℕ) × (w < 2 ^ 16) × (instruction w ≡ i)

-- a displacement that the operand's bits can hold
abbrev pub is_mode : Mode → Bool
is_mode (DbPlus d) = nat_lt d 256
is_mode (QPlus d) = nat_lt d 128
is_mode (QMinus d) = nat_lt d 64
is_mode (SMinus d) = nat_lt d 64

-- whether an instruction is an illegal word
abbrev pub is_illegal : Instr → Bool
is_illegal (Illegal w) = true
is_illegal i = false

-- whether some word has this instruction, by its fields: each code is listed with its number, and each number has the
-- bits that it needs; an illegal word is one that is no instruction
unfoldable pub has_word : Instr → Bool
has_word (Pair left right) = is_op left.code && is_op right.code
has_word (Shifted kind count) = is_shift kind && nat_lt count 64
has_word (Short test back d) = is_short_branch test && nat_lt d 32
has_word (Immediate which n) = is_immediate which n && nat_lt n 256
has_word (Control which n) = is_control which n && nat_lt n 256
has_word (Memory major second x i mode) = is_reference major second && is_mode mode
has_word (LoadCode back d) = nat_lt d 256
has_word (Branch i back d) = nat_lt d 256
has_word (OnCode mask back d) = nat_lt mask 8 && nat_lt d 32
has_word (Loop modify back d) = nat_lt d 256
has_word (Illegal w) = nat_lt w (2 ^ 16) && is_illegal (instruction w)
