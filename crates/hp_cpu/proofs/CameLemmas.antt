-- What a step answers, from what is said of its word.
use Rattle.std.proofs.Common.{◌≡◌, ℕ, List, refl, sym, ap, ◌∙◌}
use Rattle.std.specs.Prelude.{Result, Ok, Err}
use Rattle.hp_word.specs.declared.endings.Trap.{Trap}
use Rattle.hp_instr.specs.declared.instruction.Instr.{Instr}
use Rattle.hp_tos.specs.Seen.{Seen}
use Rattle.hp_session.specs.declared.registers.Regs.{Regs}
use Rattle.hp_flat.specs.Step.{row}
use Rattle.hp_calls.specs.declared.phases.Phase.{Phase}
use Rattle.hp_calls.specs.declared.phases.Phase.TheVariants.{Ready}
use Rattle.hp_calls.specs.declared.phases.Called.{Called}
use Rattle.hp_cpu.specs.declared.cpu.Stepped.{Stepped}
use Rattle.hp_cpu.specs.Acts.{Acts}
use Rattle.hp_cpu.specs.Answers.{done, phase_left, stepped}
use Rattle.hp_cpu.specs.Came.{Came}

-- a word that leaves no transfer under way leaves the phase
done_left : (answer : Result (Unit {0}) Trap) → phase_left (done answer) Ready ≡ Ready
done_left (Ok u) = refl
done_left (Err t) = refl

pub plain_came : (program : List (List ℕ)) (i : Instr) (regs : Regs) (s : Seen) (answer : Result (Unit {0}) Trap) (step : Stepped)
    (next : Regs) (after : Seen) (phase : Phase) → step ≡ stepped (done answer) → phase ≡ Ready
    → Acts program (row program i) i regs s (done answer) next after → Came program i regs s step next after phase
plain_came program i regs s answer step next after phase told ready acts =
    record { answer = done answer; told = told; left = ready ∙ sym (done_left answer); acts = acts }

pub call_came : (program : List (List ℕ)) (i : Instr) (regs : Regs) (s : Seen) (answer : Result Called Trap) (step : Stepped)
    (next : Regs) (after : Seen) (before phase : Phase) → step ≡ stepped answer → phase ≡ phase_left answer before → before ≡ Ready
    → Acts program (row program i) i regs s answer next after → Came program i regs s step next after phase
call_came program i regs s answer step next after before phase told left ready acts =
    record { answer = answer; told = told; left = left ∙ ap (phase_left answer) ready; acts = acts }
