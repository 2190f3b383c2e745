-- A step of a session: the flat machine's, and how it moves SR, fills and spills.
use Rattle.std.specs.Prelude.{ℕ, zero, suc, ◌+◌, Bool, ◌&&◌, List, Option, None, Some, Result, Ok, Err, if◌then◌else◌}
use Rattle.hp_cpu.specs.hp_word.declared.endings.Trap.{Trap}
use Rattle.hp_cpu.specs.hp_word.declared.intrinsics.Intrinsic.{Intrinsic}
use Rattle.hp_cpu.specs.hp_word.Intrinsics.{answer_words}
use Rattle.hp_cpu.specs.hp_tos.Seen.{Seen}
use Rattle.hp_cpu.specs.hp_session.declared.registers.Regs.{Regs}
use Rattle.hp_cpu.specs.hp_session.State.{Machine, Outcome}
use Rattle.hp_cpu.specs.hp_rows.Numbers.{Numbers}
use Rattle.hp_cpu.specs.hp_rows.Flushes.{flush_moved}
use Rattle.hp_cpu.specs.hp_flat.Step.{is_running, outcome, step}
use Rattle.hp_cpu.specs.Counts.{numbers_after}
use Rattle.hp_cpu.specs.Gates.{called_gate, instruction_at}
use Rattle.mpe_overlay.specs.mpe_regions.Area.{Area, is_live}
use Rattle.mpe_overlay.specs.Codes.{key_of}
use Rattle.mpe_worlds.specs.Worlds.{Run}

-- the stack of a session with these numbers; how much memory is reserved for it moves none of them
abbrev pub stack_of : Machine → Numbers → Seen
stack_of m n = record {
  words = m.stack;
  in_registers = n.in_registers;
  limit = m.stack_limit;
  extra = m.extra;
  split = m.split;
  fills = n.fills;
  spills = n.spills;
  capacity = 0;
  extra_capacity = 0;
}

-- whether a step was done, or else its trap
abbrev pub answer_of : Outcome → Result (Unit {0}) Trap
answer_of (Ok m) = Ok tt
answer_of (Err t) = Err t

-- the registers after a step; a trap leaves them
abbrev pub registers_after : Machine → Outcome → Regs
registers_after m (Ok next) = next.regs
registers_after m (Err t) = m.regs

-- the numbers after a step with an outcome. The call of an intrinsic flushes, takes its words from memory and pushes those of its
-- answer; any other step moves them by the instruction at P
abbrev pub numbers_by : Option Intrinsic → List (List ℕ) → Machine → Outcome → Seen → Numbers
numbers_by (Some i) segments m o s = flush_moved (answer_words i) (answer_of o) s
numbers_by None segments m o s = numbers_after (instruction_at segments m.regs) m.regs s (answer_of o) (registers_after m o)

-- the numbers after a step of a session
unfoldable pub numbers_stepped : List (List ℕ) → Machine → Numbers → Numbers
numbers_stepped segments m n = numbers_by (called_gate segments m) segments m (outcome segments m) (stack_of m n)

-- a session after one step more, in a program of these segments
abbrev pub stepped : List (List ℕ) → Run → Run
stepped segments r = record {
  program = r.program;
  machine = step segments r.machine;
  steps = r.steps + 1;
  numbers = numbers_stepped segments r.machine r.numbers;
}

-- the key of the segment that a session's next step needs
abbrev pub key_needed : Run → ℕ
key_needed r = key_of r.program r.machine.regs.seg

-- whether a session can make a step: it has not ended, and that segment is loaded
abbrev pub can_step : Area → Run → Bool
can_step a r = is_running r.machine.ending && is_live (key_needed r) a

-- steps until so many were made, the session has ended, or the segment that it needs is not loaded
unfoldable pub stepping : List (List ℕ) → Area → ℕ → Run → Run
stepping segments a zero r = r
stepping segments a (suc n) r = if can_step a r then stepping segments a n (stepped segments r) else r
