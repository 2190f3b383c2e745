-- What is said of one word that was fetched, over registers and a stack.
use Rattle.std.specs.Prelude.{◌≡◌, ℕ, List, slice_get, Result, Ok, Err, ⊤}
use Rattle.hp_word.specs.declared.endings.Trap.{Trap}
use Rattle.hp_instr.specs.declared.instruction.Instr.{Instr}
use Rattle.hp_tos.specs.Seen.{Seen}
use Rattle.hp_tos.specs.Calls.{flushed}
use Rattle.hp_session.specs.declared.registers.Regs.{Regs}
use Rattle.hp_session.specs.State.{Machine, Outcome}
use Rattle.hp_rows.specs.Standing.{standing}
use Rattle.hp_rows.specs.Numbers.{numbers}
use Rattle.hp_calls.specs.declared.phases.Called.{Called}
use Rattle.hp_calls.specs.declared.phases.Called.TheVariants.{Went, Gate}
use Rattle.hp_calls.specs.Phases.{finished}
use Rattle.hp_calls.specs.Transfers.{GoesAs, handed_on}
use Rattle.hp_cpu.specs.Gates.{gate_of}
use Rattle.hp_cpu.specs.Left.{phase_of}
use Rattle.hp_cpu.specs.Counts.{instruction_numbers}

-- the numbers of a stack in registers moved as the instruction says, by the registers when its transfer is finished; what is
-- handed on to the gate has flushed alone
abbrev pub Counted : List (List ℕ) → Instr → Result Called Trap → Regs → Seen → Regs → Seen → Type 0
Counted program i (Ok (Went phase)) regs s next after =
    numbers after ≡ instruction_numbers i regs s (Ok tt) (finished (slice_get program) phase next)
Counted program i (Ok (Gate g)) regs s next after = numbers after ≡ numbers (flushed s)
Counted program i (Err t) regs s next after = numbers after ≡ instruction_numbers i regs s (Err t) next

-- a call went on through its label, a return by its marker, and no other instruction leaves a transfer under way
abbrev pub IsLed : List (List ℕ) → Instr → Machine → Result Called Trap → Type 0
IsLed program i m (Ok (Went phase)) = phase ≡ phase_of program i m
IsLed program i m (Ok (Gate g)) = ⊤
IsLed program i m (Err t) = ⊤

-- from registers and a stack an answer came, and left registers and a stack, as an instruction with this row says in a program
pub record Acts (program : List (List ℕ)) (row : Machine → Outcome) (i : Instr) (regs : Regs) (s : Seen)
    (answer : Result Called Trap) (next : Regs) (after : Seen) : Type 0 where
  -- it did the row, whose transfer may be finished later; a trap, and what is handed on to the gate, leave the session
  pub goes : (rest : Machine) → GoesAs program row answer regs s next after rest
  -- it is handed on exactly where the instruction calls an intrinsic
  pub gate : (rest : Machine) → handed_on answer ≡ gate_of program i (standing regs s rest)
  pub led : (rest : Machine) → IsLed program i (standing regs s rest) answer
  pub counts : Counted program i answer regs s next after
  -- memory is reserved for as many words as before
  pub same_capacity : after.capacity ≡ s.capacity
  pub same_extra_capacity : after.extra_capacity ≡ s.extra_capacity
