-- How a step moves SR, fills and spills rests on these numbers and the words alone, and not on the memory that is reserved.
use Rattle.std.proofs.Common.{◌≡◌, ℕ, refl, ap, ◌∙◌}
use Rattle.std.specs.Prelude.{Option, None, Some, Result, Ok, Err}
use Rattle.hp_cpu.specs.hp_word.declared.endings.Trap.{Trap}
use Rattle.hp_cpu.specs.hp_word.declared.endings.Trap.TheVariants.{IntegerOverflow, DivideByZero, Bounds, StackOverflow, StackUnderflow, Illegal, CodeBounds, BadEntry, OutputLimit, Mode}
use Rattle.hp_cpu.specs.hp_instr.Groups.{group}
use Rattle.hp_cpu.specs.hp_instr.declared.groups.Group.{Group}
use Rattle.hp_cpu.specs.hp_instr.declared.groups.Group.TheVariants as groups
use Rattle.hp_cpu.specs.hp_instr.declared.instruction.Instr.{Instr}
use Rattle.hp_cpu.specs.hp_instr.declared.instruction.Instr.TheVariants as words
use Rattle.hp_cpu.specs.hp_tos.Seen.{Seen}
use Rattle.hp_cpu.specs.hp_session.declared.registers.Regs.{Regs}
use Rattle.hp_cpu.specs.hp_rows.Numbers.{Way, filling, dropping, Uses, at_hand, exchanging, moved}
use Rattle.hp_cpu.specs.hp_rows.Flushes.{flush_moved}
use Rattle.hp_cpu.specs.hp_memref.ReferenceUses.{reference_uses}
use Rattle.hp_cpu.specs.Counts.{group_numbers, instruction_numbers, numbers_after}

-- the same stack with other memory reserved
abbrev pub reserved : ℕ → ℕ → Seen → Seen
reserved capacity extra s = record s { capacity = capacity; extra_capacity = extra }

at_hand-reserved : (w : Way) (taken capacity extra : ℕ) (s : Seen) → at_hand w taken (reserved capacity extra s) ≡ at_hand w taken s
at_hand-reserved filling taken capacity extra s = refl
at_hand-reserved dropping taken capacity extra s = refl

moved-reserved : (u : Uses) (a : Result (Unit {0}) Trap) (capacity extra : ℕ) (s : Seen) → moved u a (reserved capacity extra s) ≡ moved u a s
moved-reserved u (Ok done) capacity extra s = ap (exchanging u.taken u.left) (at_hand-reserved u.way u.taken capacity extra s)
moved-reserved u (Err IntegerOverflow) capacity extra s = at_hand-reserved u.way u.taken capacity extra s
moved-reserved u (Err DivideByZero) capacity extra s = at_hand-reserved u.way u.taken capacity extra s
moved-reserved u (Err Bounds) capacity extra s = at_hand-reserved u.way u.taken capacity extra s
moved-reserved u (Err StackOverflow) capacity extra s = at_hand-reserved u.way u.taken capacity extra s
moved-reserved u (Err StackUnderflow) capacity extra s = refl
moved-reserved u (Err Illegal) capacity extra s = refl
moved-reserved u (Err CodeBounds) capacity extra s = at_hand-reserved u.way u.taken capacity extra s
moved-reserved u (Err BadEntry) capacity extra s = at_hand-reserved u.way u.taken capacity extra s
moved-reserved u (Err OutputLimit) capacity extra s = at_hand-reserved u.way u.taken capacity extra s
moved-reserved u (Err Mode) capacity extra s = at_hand-reserved u.way u.taken capacity extra s

flushed-reserved : (left : ℕ) (a : Result (Unit {0}) Trap) (capacity extra : ℕ) (s : Seen) → flush_moved left a (reserved capacity extra s) ≡ flush_moved left a s
flushed-reserved left (Ok done) capacity extra s = refl
flushed-reserved left (Err t) capacity extra s = refl

uses-reserved : (i : Instr) (capacity extra : ℕ) (s : Seen) → reference_uses i (reserved capacity extra s) ≡ reference_uses i s
unfolding reference_uses
uses-reserved (words.Pair left right) capacity extra s = refl
uses-reserved (words.Shifted kind count) capacity extra s = refl
uses-reserved (words.Short test back d) capacity extra s = refl
uses-reserved (words.Immediate which n) capacity extra s = refl
uses-reserved (words.Control which n) capacity extra s = refl
uses-reserved (words.Memory major second x i mode) capacity extra s = refl
uses-reserved (words.LoadCode back d) capacity extra s = refl
uses-reserved (words.Branch i back d) capacity extra s = refl
uses-reserved (words.OnCode mask back d) capacity extra s = refl
uses-reserved (words.Loop modify back d) capacity extra s = refl
uses-reserved (words.Illegal w) capacity extra s = refl

by_group : (g : Group) (i : Instr) (regs : Regs) (a : Result (Unit {0}) Trap) (next : Regs) (capacity extra : ℕ) (s : Seen)
    → group_numbers g i regs (reserved capacity extra s) a next ≡ group_numbers g i regs s a next
by_group groups.Stack i regs a next capacity extra s = moved-reserved _ a capacity extra s
by_group groups.Field i regs a next capacity extra s = moved-reserved _ a capacity extra s
by_group groups.Reference i regs a next capacity extra s =
    ap (λ (u : Uses). moved u a (reserved capacity extra s)) (uses-reserved i capacity extra s) ∙ moved-reserved _ a capacity extra s
by_group groups.Move i regs a next capacity extra s = moved-reserved _ a capacity extra s
by_group groups.Call i regs a next capacity extra s = flushed-reserved _ a capacity extra s
by_group groups.Illegal i regs a next capacity extra s = refl

-- the numbers after a step
pub numbers_after-reserved : (o : Option Instr) (regs : Regs) (a : Result (Unit {0}) Trap) (next : Regs) (capacity extra : ℕ) (s : Seen)
    → numbers_after o regs (reserved capacity extra s) a next ≡ numbers_after o regs s a next
unfolding instruction_numbers
numbers_after-reserved None regs a next capacity extra s = refl
numbers_after-reserved (Some i) regs a next capacity extra s = by_group (group i) i regs a next capacity extra s
