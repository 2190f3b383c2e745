-- What it means that a call does a row over a stack in registers.
use Rattle.std.specs.Prelude.{◌≡◌, ◌↔◌, ◌<◌, ◌+◌, length, Result, Err, OnOk}
use Rattle.hp_word.specs.declared.endings.Trap.{Trap}
use Rattle.hp_word.specs.declared.endings.Trap.TheVariants.{StackUnderflow}
use Rattle.hp_tos.specs.Seen.{Seen}
use Rattle.hp_session.specs.declared.registers.Regs.{Regs}
use Rattle.hp_session.specs.State.{Machine, Outcome, Does}
use Rattle.hp_rows.specs.Standing.{standing}
use Rattle.hp_rows.specs.Numbers.{Uses, numbers, moved}

-- from registers and a stack a call answered, and left registers and a stack, as a row says that uses so many words
pub record Performs (row : Machine → Outcome) (u : Uses) (regs : Regs) (s : Seen) (answer : Result (Unit {0}) Trap)
    (next : Regs) (after : Seen) : Type 0 where
  -- it did the flat machine's row, whatever terminal the session has; at a trap that session is as it was, so registers, the
  -- list of words, the extra segment and the mode are as before
  pub does : (rest : Machine) → Does (row (standing regs s rest)) (standing regs s rest) answer (standing next after rest)
  -- the row uses so many words: it underflows exactly where fewer are there than it takes, and where it is done as many stand
  -- in their place as it leaves
  pub few : (answer ≡ Err StackUnderflow) ↔ (length s.words < u.taken)
  pub exchanged : OnOk answer (length after.words + u.taken ≡ length s.words + u.left)
  -- the numbers of the stack in registers moved as the answer says
  pub moves : numbers after ≡ moved u answer s
  -- memory is reserved for as many words as before
  pub same_capacity : after.capacity ≡ s.capacity
  pub same_extra_capacity : after.extra_capacity ≡ s.extra_capacity
