-- What a step answered by a word that was fetched, where no transfer was under way before.
use Rattle.std.specs.Prelude.{◌≡◌, ℕ, List, Result}
use Rattle.hp_word.specs.declared.endings.Trap.{Trap}
use Rattle.hp_instr.specs.declared.instruction.Instr.{Instr}
use Rattle.hp_tos.specs.Seen.{Seen}
use Rattle.hp_session.specs.declared.registers.Regs.{Regs}
use Rattle.hp_flat.specs.Step.{row}
use Rattle.hp_calls.specs.declared.phases.Phase.{Phase}
use Rattle.hp_calls.specs.declared.phases.Phase.TheVariants.{Ready}
use Rattle.hp_calls.specs.declared.phases.Called.{Called}
use Rattle.hp_cpu.specs.declared.cpu.Stepped.{Stepped}
use Rattle.hp_cpu.specs.Acts.{Acts}
use Rattle.hp_cpu.specs.Answers.{phase_left, stepped}

-- the instruction acted, with some answer; the step's is by that one, and so is the phase after it
pub record Came (program : List (List ℕ)) (i : Instr) (regs : Regs) (s : Seen) (step : Stepped) (next : Regs) (after : Seen)
    (phase : Phase) : Type 0 where
  pub answer : Result Called Trap
  pub told : step ≡ stepped answer
  pub left : phase ≡ phase_left answer Ready
  pub acts : Acts program (row program i) i regs s answer next after
