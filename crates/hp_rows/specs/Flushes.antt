-- Rows that flush: every register is spilled as soon as the word is known to be legal. What the step takes then comes from
-- memory, with no fill, and what it pushes stands in registers.
use Rattle.std.specs.Prelude.{◌≡◌, ℕ, Result, Ok, Err}
use Rattle.hp_word.specs.declared.endings.Trap.{Trap}
use Rattle.hp_tos.specs.Seen.{Seen}
use Rattle.hp_tos.specs.Calls.{flushed}
use Rattle.hp_session.specs.declared.registers.Regs.{Regs}
use Rattle.hp_session.specs.State.{Machine, Outcome, Does}
use Rattle.hp_rows.specs.Standing.{standing}
use Rattle.hp_rows.specs.Numbers.{Numbers, numbers, exchanging}

-- what such a step makes of the numbers, by its answer: each register is a spill. A step that is done has pushed so many words
-- onto none in registers; each trap, too few words among them, comes after the flush and before the pushes
abbrev pub flush_moved : {A : Type 0} → ℕ → Result A Trap → Seen → Numbers
flush_moved left (Ok done) s = exchanging 0 left (numbers (flushed s))
flush_moved left (Err trap) s = numbers (flushed s)

-- from registers and a stack a call answered, and left registers and a stack, as a row says that flushes and pushes so many words
pub record Flushes (row : Machine → Outcome) (left : ℕ) (regs : Regs) (s : Seen) (answer : Result (Unit {0}) Trap)
    (next : Regs) (after : Seen) : Type 0 where
  -- it did the flat machine's row, whatever terminal the session has; at a trap that session is as it was
  pub does : (rest : Machine) → Does (row (standing regs s rest)) (standing regs s rest) answer (standing next after rest)
  -- the numbers of the stack in registers moved as the answer says
  pub moves : numbers after ≡ flush_moved left answer s
  -- memory is reserved for as many words as before
  pub same_capacity : after.capacity ≡ s.capacity
  pub same_extra_capacity : after.extra_capacity ≡ s.extra_capacity
