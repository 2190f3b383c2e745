-- What is said of one step of a processor over a store of code: by its answer, what it was for the flat machine.
use Rattle.std.specs.Prelude.{◌≡◌, ℕ, false, List, Option, None, Some, IsSome, Ok, Err, Result}
use Rattle.hp_word.specs.declared.endings.Trap.{Trap}
use Rattle.hp_word.specs.declared.intrinsics.Intrinsic.{Intrinsic}
use Rattle.hp_tos.specs.Calls.{flushed}
use Rattle.hp_tos.specs.StackView.{seen}
use Rattle.hp_session.specs.State.{Machine, passing}
use Rattle.hp_rows.specs.Numbers.{Numbers, numbers}
use Rattle.hp_calls.specs.hp_call_rows.GateRows.{performed}
use Rattle.hp_calls.specs.declared.phases.Phase.TheVariants.{Ready}
use Rattle.hp_calls.specs.Transfers.{Waits as StillAt}
use Rattle.hp_flat.specs.Step.{outcome}
use Rattle.hp_cpu.specs.declared.cpu.Cpu.{Cpu}
use Rattle.hp_cpu.specs.declared.cpu.Stepped.{Stepped}
use Rattle.hp_cpu.specs.declared.cpu.Stepped.TheVariants.{Went, Absent, Gate, Trapped}
use Rattle.hp_cpu.specs.Stood.{needed, registers, stood}
use Rattle.hp_cpu.specs.Gates.{called_gate, instruction_at}
use Rattle.hp_cpu.specs.Left.{phase_after}
use Rattle.hp_cpu.specs.Counts.{numbers_after}

-- the numbers of the stack in registers after a step with an answer; a transfer that the step leaves under way counts as finished
abbrev pub numbers_left : List (List ℕ) → Cpu → Result (Unit {0}) Trap → Cpu → Numbers
numbers_left program old answer new =
    numbers_after (instruction_at program (registers program old)) (registers program old) (seen old.stack) answer (registers program new)

-- the segment that was needed is absent, and nothing has changed
pub record Waits (held : ℕ → Option (List ℕ)) (old : Cpu) (seg : ℕ) (new : Cpu) : Type 0 where
  pub needs : seg ≡ needed old
  pub absent : held seg ≡ None
  pub same : new ≡ old

-- The flat machine's step, whatever terminal the session has. The phase is that of the label or of the marker; while a transfer is under
-- way the segment and the offset of P are those of the word that began it.
pub record Goes (program : List (List ℕ)) (held : ℕ → Option (List ℕ)) (old new : Cpu) : Type 0 where
  pub present : IsSome (held (needed old))
  pub goes : (rest : Machine) → outcome program (stood program old rest) ≡ Ok (stood program new rest)
  pub no_gate : (rest : Machine) → called_gate program (stood program old rest) ≡ None
  pub phase : (rest : Machine) → new.phase ≡ phase_after program (stood program old rest)
  pub waits : StillAt new.phase (registers program old) new.regs
  pub counts : numbers (seen new.stack) ≡ numbers_left program old (Ok tt) new
  pub same_segments : new.segments ≡ old.segments

-- the flat machine's trap: the session is as it was, R too
pub record Traps (program : List (List ℕ)) (held : ℕ → Option (List ℕ)) (old : Cpu) (t : Trap) (new : Cpu) : Type 0 where
  pub present : IsSome (held (needed old))
  pub traps : (rest : Machine) → outcome program (stood program old rest) ≡ Err t
  pub same : (rest : Machine) → stood program new rest ≡ stood program old rest
  pub no_gate : (rest : Machine) → called_gate program (stood program old rest) ≡ None
  pub counts : numbers (seen new.stack) ≡ numbers_left program old (Err t) new
  pub same_segments : new.segments ≡ old.segments

-- the call of an intrinsic, which is not done yet: the session is as it was, in whole mode, with every word in memory. The flat
-- machine's step is what the intrinsic does, and then P passes the call
pub record Calls (program : List (List ℕ)) (held : ℕ → Option (List ℕ)) (old : Cpu) (i : Intrinsic) (new : Cpu) : Type 0 where
  pub present : IsSome (held (needed old))
  pub calls : (rest : Machine) → outcome program (stood program old rest) ≡ passing (performed i (stood program old rest))
  pub same : (rest : Machine) → stood program new rest ≡ stood program old rest
  pub gate : (rest : Machine) → called_gate program (stood program old rest) ≡ Some i
  pub ready : new.phase ≡ Ready
  pub whole : (seen new.stack).split ≡ false
  pub in_memory : (seen new.stack).in_registers ≡ 0
  pub counts : numbers (seen new.stack) ≡ numbers (flushed (seen old.stack))
  pub same_segments : new.segments ≡ old.segments

-- a step over a store that holds segments of a program, by its answer
abbrev pub Steps : List (List ℕ) → (ℕ → Option (List ℕ)) → Cpu → Stepped → Cpu → Type 0
Steps program held old Went new = Goes program held old new
Steps program held old (Absent seg) new = Waits held old seg new
Steps program held old (Gate i) new = Calls program held old i new
Steps program held old (Trapped t) new = Traps program held old t new
