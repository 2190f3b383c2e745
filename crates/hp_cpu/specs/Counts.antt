-- How a step moves the numbers of a stack in registers, SR, fills and spills: by the instruction at P.
use Rattle.std.specs.Prelude.{ℕ, ◌+◌, ◌==◌, Bool, Option, None, Some, Result, if◌then◌else◌}
use Rattle.hp_word.specs.declared.endings.Trap.{Trap}
use Rattle.hp_instr.specs.declared.groups.Group.{Group}
use Rattle.hp_instr.specs.declared.groups.Group.TheVariants.{Stack, Field, Reference, Move, Call, Illegal}
use Rattle.hp_instr.specs.declared.instruction.Instr.{Instr}
use Rattle.hp_instr.specs.declared.instruction.Instr.TheVariants.{Pair, Control}
use Rattle.hp_instr.specs.Groups.{group}
use Rattle.hp_tos.specs.Seen.{Seen}
use Rattle.hp_session.specs.declared.registers.Regs.{Regs}
use Rattle.hp_session.specs.State.{wrapped}
use Rattle.hp_rows.specs.Numbers.{Uses, Numbers, numbers, uses, moved}
use Rattle.hp_rows.specs.Flushes.{flush_moved}
use Rattle.hp_stackops.specs.StackUses.{used_by}
use Rattle.hp_fields.specs.FieldUses.{field_uses}
use Rattle.hp_memref.specs.ReferenceUses.{reference_uses}
use Rattle.hp_moves.specs.MoveUses.{move_uses}

-- the words that a step of a pair takes and leaves: those of the right operation where R is 1, else those of the left one
abbrev pub pair_uses : Bool → Instr → Uses
pair_uses right (Pair first second) = used_by (if right then second else first).code
pair_uses right i = uses 0 0

-- how many words a call or a return pushes: PCAL, code 0, its marker, and SCAL, code 3, the return word
abbrev pub call_pushes : Instr → ℕ
call_pushes (Control which n) = if which == 0 then 4 else if which == 3 then 1 else 0
call_pushes i = 0

-- whether P has passed its word, so that a move is over
abbrev pub has_passed : Regs → Regs → Bool
has_passed regs next = next.p == wrapped (regs.p + 1)

-- the numbers after a step of an instruction of a group, by registers and stack before it, the answer, and registers after it
abbrev pub group_numbers : Group → Instr → Regs → Seen → Result (Unit {0}) Trap → Regs → Numbers
group_numbers Stack i regs s answer next = moved (pair_uses regs.right i) answer s
group_numbers Field i regs s answer next = moved (field_uses i) answer s
group_numbers Reference i regs s answer next = moved (reference_uses i s) answer s
group_numbers Move i regs s answer next = moved (move_uses i (has_passed regs next)) answer s
group_numbers Call i regs s answer next = flush_moved (call_pushes i) answer s
group_numbers Illegal i regs s answer next = numbers s

-- those of the instruction
unfoldable pub instruction_numbers : Instr → Regs → Seen → Result (Unit {0}) Trap → Regs → Numbers
instruction_numbers i regs s answer next = group_numbers (group i) i regs s answer next

-- where there is no word at P nothing moves
abbrev pub numbers_after : Option Instr → Regs → Seen → Result (Unit {0}) Trap → Regs → Numbers
numbers_after None regs s answer next = numbers s
numbers_after (Some i) regs s answer next = instruction_numbers i regs s answer next
