-- What the definitions give for small programs and stacks, worked by hand from the rules.
use Rattle.std.proofs.Common.{◌≡◌, ℕ, true, false, List, [], ◌∷◌, refl}
use Rattle.std.specs.Prelude.{None, Some, Result, Ok, Err}
use Rattle.hp_word.specs.declared.arithmetic.Code.TheVariants.{Less}
use Rattle.hp_word.specs.declared.endings.Trap.{Trap}
use Rattle.hp_word.specs.declared.endings.Trap.TheVariants as traps
use Rattle.hp_word.specs.declared.intrinsics.Intrinsic.TheVariants.{Print}
use Rattle.hp_instr.specs.Fields.{is_control, is_op}
use Rattle.hp_instr.specs.Instructions.{instruction, pair, control, op}
use Rattle.hp_instr.specs.Labels.{label}
use Rattle.hp_instr.specs.declared.instruction.Instr.{Instr}
use Rattle.hp_instr.specs.declared.instruction.Instr.TheVariants as words
use Rattle.hp_program.specs.Programs.{code_word}
use Rattle.hp_tos.specs.Seen.{Seen}
use Rattle.hp_tos.specs.declared.stack.Stack.{Stack}
use Rattle.hp_session.specs.declared.registers.Regs.{Regs}
use Rattle.hp_session.specs.State.{Machine, opened}
use Rattle.hp_rows.specs.Numbers.{Numbers}
use Rattle.hp_calls.specs.hp_call_rows.CallRows.{label_at}
use Rattle.hp_stackops.specs.StackUses.{used_by}
use Rattle.hp_moves.specs.MoveUses.{move_uses, step_uses}
use Rattle.hp_calls.specs.declared.phases.Phase.{Phase}
use Rattle.hp_calls.specs.declared.phases.Phase.TheVariants.{Ready, Entering, Returning}
use Rattle.hp_calls.specs.Phases.{finished}
use Rattle.hp_cpu.specs.declared.cpu.Cpu.{Cpu}
use Rattle.hp_cpu.specs.Stood.{needed, registers}
use Rattle.hp_cpu.specs.Gates.{called_gate, gate_of}
use Rattle.hp_cpu.specs.Counts.{instruction_numbers, numbers_after}

-- the first segment begins with PCAL 2 and a pair of NOPs; its entries are local offset 0 and PRINT. The second has the entry 3
abbrev program : List (List ℕ)
program = (0o30002 ∷ 0 ∷ 0o100777 ∷ 0 ∷ 2 ∷ []) ∷ (0 ∷ 0 ∷ 0 ∷ 0 ∷ 3 ∷ 1 ∷ []) ∷ []

abbrev at : ℕ → ℕ → Regs
at seg p = record { x = 7; q = 20; p = p; seg = seg; traps = true; right = false; overflow = false; carry = false; code = Less }

abbrev with_phase : Phase → Stack → Cpu
with_phase phase stack = record { regs = at 0 1; phase = phase; stack = stack; segments = 2 }

-- a step needs the current segment, or that of the transfer
needed-ready : (stack : Stack) → needed (with_phase Ready stack) ≡ 0
needed-ready stack = refl

needed-returning : (stack : Stack) → needed (with_phase (Returning 1 4) stack) ≡ 1
needed-returning stack = refl

-- a transfer that is under way stands for one that is finished
registers-entering : (stack : Stack) → registers program (with_phase (Entering 1 1) stack) ≡ at 1 3
unfolding finished
registers-entering stack = refl

-- Intrinsics

abbrev session : Regs → Machine
session regs = record (opened [] 0 0 [] 0 0 0) { regs = regs }

gate-print : called_gate program (session (at 0 0)) ≡ Some Print
unfolding called_gate code_word instruction pair control is_control is_op label_at label
gate-print = refl

-- not in split mode, not of another word, and not past the segment's end
gate-split : called_gate program (record (session (at 0 0)) { split = true }) ≡ None
unfolding called_gate code_word instruction pair control is_control is_op label_at label
gate-split = refl

gate-pair : called_gate program (session (at 0 1)) ≡ None
unfolding called_gate code_word instruction pair control is_control is_op label_at label
gate-pair = refl

gate-outside : called_gate program (session (at 0 5)) ≡ None
unfolding called_gate code_word instruction pair control is_control is_op label_at label
gate-outside = refl

-- nor through a label that is no intrinsic's, nor by EXIT
gate-local : gate_of program (words.Control 0 1) (session (at 0 0)) ≡ None
unfolding label_at label
gate-local = refl

gate-exit : gate_of program (words.Control 1 2) (session (at 0 0)) ≡ None
gate-exit = refl

-- Numbers

-- a stack with so many registers in use
abbrev stack_of : ℕ → Seen
stack_of n = record { words = 1 ∷ 2 ∷ 3 ∷ 4 ∷ 5 ∷ []; in_registers = n; limit = 9; extra = []; split = false; fills = 10; spills = 20; capacity = 9; extra_capacity = 0 }

abbrev counts : ℕ → ℕ → ℕ → Numbers
counts n fills spills = record { in_registers = n; fills = fills; spills = spills }

-- ADD and then DUP: the left operation with R at 0, the right one with R at 1
abbrev add_dup : Instr
add_dup = words.Pair (op 0o20) (op 0o45)

abbrev done : Result (Unit {0}) Trap
done = Ok tt

numbers-left : instruction_numbers add_dup (at 0 0) (stack_of 1) done (at 0 0) ≡ counts 1 11 20
unfolding instruction_numbers used_by
numbers-left = refl

numbers-right : instruction_numbers add_dup (record (at 0 0) { right = true }) (stack_of 4) done (at 0 1) ≡ counts 4 10 21
unfolding instruction_numbers used_by
numbers-right = refl

-- a trap comes after the fills, but for one that finds too few words
numbers-overflow : instruction_numbers add_dup (at 0 0) (stack_of 1) (Err traps.IntegerOverflow) (at 0 0) ≡ counts 2 11 20
unfolding instruction_numbers used_by
numbers-overflow = refl

numbers-underflow : instruction_numbers add_dup (at 0 0) (stack_of 1) (Err traps.StackUnderflow) (at 0 0) ≡ counts 1 10 20
unfolding instruction_numbers used_by
numbers-underflow = refl

-- MOVE takes three words. While it goes on they stay; when P has passed one is left
numbers-moving : instruction_numbers (words.Control 9 0) (at 0 5) (stack_of 1) done (at 0 5) ≡ counts 3 12 20
unfolding instruction_numbers move_uses step_uses
numbers-moving = refl

numbers-moved : instruction_numbers (words.Control 9 0) (at 0 5) (stack_of 1) done (at 0 6) ≡ counts 1 12 20
unfolding instruction_numbers move_uses step_uses
numbers-moved = refl

-- a call flushes and pushes its marker, a return flushes
numbers-pcal : instruction_numbers (words.Control 0 1) (at 0 0) (stack_of 3) done (at 0 0) ≡ counts 4 10 23
unfolding instruction_numbers
numbers-pcal = refl

numbers-exit : instruction_numbers (words.Control 1 0) (at 0 0) (stack_of 3) done (at 0 0) ≡ counts 0 10 23
unfolding instruction_numbers
numbers-exit = refl

-- a word that is no instruction, and no word at all, move nothing
numbers-illegal : instruction_numbers (words.Illegal 0o13) (at 0 0) (stack_of 3) (Err traps.Illegal) (at 0 0) ≡ counts 3 10 20
unfolding instruction_numbers
numbers-illegal = refl

numbers-no_word : numbers_after None (at 0 5) (stack_of 3) (Err traps.CodeBounds) (at 0 5) ≡ counts 3 10 20
numbers-no_word = refl
