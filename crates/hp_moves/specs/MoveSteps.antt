-- What is said of one step of a move: the flat machine's row, with the answer telling whether the move is over.
use Rattle.std.specs.Prelude.{◌≡◌, ℕ, ◌+◌, Bool, true, false, List, Result, Ok, Err, OnOk, if◌then◌else◌}
use Rattle.hp_word.specs.declared.endings.Trap.{Trap}
use Rattle.hp_word.specs.declared.endings.Trap.TheVariants.{Illegal}
use Rattle.hp_instr.specs.declared.instruction.Instr.{Instr}
use Rattle.hp_instr.specs.declared.instruction.Instr.TheVariants.{Control}
use Rattle.hp_tos.specs.Seen.{Seen}
use Rattle.hp_session.specs.declared.registers.Regs.{Regs}
use Rattle.hp_session.specs.State.{Machine, Outcome, wrapped}
use Rattle.hp_memory_rows.specs.MoveRows.{move_row}
use Rattle.hp_rows.specs.Numbers.{Uses}
use Rattle.hp_rows.specs.Performs.{Performs}
use Rattle.hp_moves.specs.declared.steps.MoveStep.{MoveStep}
use Rattle.hp_moves.specs.declared.steps.MoveStep.TheVariants.{Moving, Moved}

-- the row of an instruction of the group, in a program with these segments
unfoldable pub instruction_row : List (List ℕ) → Instr → Machine → Outcome
instruction_row segments (Control which n) m = move_row segments which n m
instruction_row segments _ m = Err Illegal

-- whether an answer tells that the move is over
abbrev pub is_over : Result MoveStep Trap → Bool
is_over (Ok Moving) = false
is_over (Ok Moved) = true
is_over (Err t) = false

-- an answer as one of any step
abbrev pub as_step : Result MoveStep Trap → Result (Unit {0}) Trap
as_step (Ok step) = Ok tt
as_step (Err t) = Err t

-- P after a step: past its word where the move is over, and else at it
abbrev pub place_after : Bool → ℕ → ℕ
place_after over p = if over then wrapped (p + 1) else p

-- from registers and a stack a step answered, and left registers and a stack, as a row says that uses so many words by whether
-- the move is over
pub record MovesOn (row : Machine → Outcome) (u : Bool → Uses) (regs : Regs) (s : Seen) (answer : Result MoveStep Trap)
    (next : Regs) (after : Seen) : Type 0 where
  pub performs : Performs row (u (is_over answer)) regs s (as_step answer) next after
  -- the move is over exactly where P passes
  pub place : OnOk answer (next.p ≡ place_after (is_over answer) regs.p)
