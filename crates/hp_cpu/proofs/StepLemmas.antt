-- What is said of a step, from the segment that it needs, its word and what that did.
use Rattle.std.proofs.Common.{◌≡◌, ℕ, Bool, true, false, List, [], slice_get, refl, sym, ap, subst, ◌∙◌}
use Rattle.std.specs.Prelude.{IsSome, IfSome, Result, Ok, Err, Option, None, Some, option_and_then, option_map, unwrap_or}
use Rattle.hp_word.specs.declared.endings.Trap.{Trap}
use Rattle.hp_word.specs.declared.endings.Trap.TheVariants.{CodeBounds}
use Rattle.hp_word.specs.declared.intrinsics.Intrinsic.{Intrinsic}
use Rattle.hp_instr.specs.declared.labels.Label.{Label}
use Rattle.hp_instr.specs.Instructions.{instruction}
use Rattle.hp_program.specs.Programs.{code_word}
use Rattle.hp_program.specs.declared.store.Fetched.TheVariants.{Word, Absent as Missing, Outside}
use Rattle.hp_program.specs.Stores.{fetched, word_or_outside}
use Rattle.hp_tos.specs.declared.stack.Stack.{Stack}
use Rattle.hp_tos.specs.StackView.{seen}
use Rattle.hp_session.specs.declared.registers.Regs.{Regs}
use Rattle.hp_session.specs.State.{Machine, opened, passing}
use Rattle.hp_calls.specs.hp_call_rows.GateRows.{performed}
use Rattle.hp_rows.specs.Standing.{standing}
use Rattle.hp_rows.specs.Numbers.{Numbers}
use Rattle.hp_calls.specs.declared.phases.Phase.{Phase}
use Rattle.hp_calls.specs.declared.phases.Phase.TheVariants.{Ready, Entering, Returning}
use Rattle.hp_calls.specs.declared.phases.Called.{Called}
use Rattle.hp_calls.specs.declared.phases.Called.TheVariants as called
use Rattle.hp_calls.specs.Phases.{HoldsOf, arrived, destination, finished, present}
use Rattle.hp_calls.specs.Transfers.{Waits, wanted}
use Rattle.hp_calls.proofs.PhaseLaws.{finished_of}
use Rattle.hp_flat.specs.Step.{by_word, outcome, row}
use Rattle.hp_cpu.specs.declared.cpu.Cpu.{Cpu}
use Rattle.hp_cpu.specs.declared.cpu.Stepped.TheVariants.{Absent, Trapped}
use Rattle.hp_cpu.specs.Stood.{needed, registers, stood}
use Rattle.hp_cpu.specs.Gates.{called_gate, gate_at, instruction_at}
use Rattle.hp_cpu.specs.Left.{phase_after, phase_at}
use Rattle.hp_cpu.specs.Counts.{numbers_after}
use Rattle.hp_cpu.specs.Acts.{Acts}
use Rattle.hp_cpu.specs.Answers.{phase_left, stepped}
use Rattle.hp_cpu.specs.Steps.{Steps}

-- The segment that is needed

-- a transfer waits for its own segment
waiting : (held : ℕ → Option (List ℕ)) (to seg : ℕ) → present to (held to) ≡ Err seg → (seg ≡ to) × (held seg ≡ None)
waiting held to seg h = by (held to) refl h where
  by : (o : Option (List ℕ)) → held to ≡ o → present to o ≡ Err seg → (seg ≡ to) × (held seg ≡ None)
  by None is k = let same : seg ≡ to = cc in (same, rw same is)
  by (Some words) is k = cc

pub waits_for : (held : ℕ → Option (List ℕ)) (phase : Phase) (current seg : ℕ) → arrived held phase ≡ Err seg
    → (seg ≡ unwrap_or (destination phase) current) × (held seg ≡ None)
unfolding arrived
waits_for held Ready current seg h = cc
waits_for held (Entering to entry) current seg h = waiting held to seg h
waits_for held (Returning to offset) current seg h = waiting held to seg h

-- the segment of the registers of a finished transfer is the one that was needed
finished_in : (held : ℕ → Option (List ℕ)) (phase : Phase) (regs : Regs) → (finished held phase regs).seg ≡ unwrap_or (destination phase) regs.seg
unfolding finished
finished_in held Ready regs = refl
finished_in held (Entering seg entry) regs = refl
finished_in held (Returning seg offset) regs = refl

-- a segment to which a transfer was finished is held
arrived_held : (held : ℕ → Option (List ℕ)) (phase : Phase) (regs : Regs) → arrived held phase ≡ Ok tt → held (finished held phase regs).seg ≡ None
    → (phase ≡ Ready) × (finished held phase regs ≡ regs)
unfolding arrived finished
arrived_held held Ready regs here none = (refl, refl)
arrived_held held (Entering seg entry) regs here none = let wrong = rw none at here in cc
arrived_held held (Returning seg offset) regs here none = let wrong = rw none at here in cc

-- Words

missing_is : (o : Option (List ℕ)) (p : ℕ) → fetched o p ≡ Missing → o ≡ None
unfolding fetched
missing_is None p h = refl
missing_is (Some words) p h = by (slice_get words p) h where
  by : (w : Option ℕ) → word_or_outside w ≡ Missing → Some words ≡ None
  by None k = cc
  by (Some w) k = cc

word_is : (o : Option (List ℕ)) (p w : ℕ) → fetched o p ≡ Word w → IsSome o × (option_and_then (λ words. slice_get words p) o ≡ Some w)
unfolding fetched
word_is None p w h = cc
word_is (Some words) p w h = (refl, by (slice_get words p) h) where
  by : (v : Option ℕ) → word_or_outside v ≡ Word w → v ≡ Some w
  by None k = cc
  by (Some v) k = cc

outside_is : (o : Option (List ℕ)) (p : ℕ) → fetched o p ≡ Outside → IsSome o × (option_and_then (λ words. slice_get words p) o ≡ None)
unfolding fetched
outside_is None p h = cc
outside_is (Some words) p h = (refl, by (slice_get words p) h) where
  by : (v : Option ℕ) → word_or_outside v ≡ Outside → v ≡ None
  by None k = refl
  by (Some v) k = cc

-- a segment that is held is the program's
pub held_is : (program : List (List ℕ)) (held : ℕ → Option (List ℕ)) (seg : ℕ) → HoldsOf program held → IsSome (held seg) → slice_get program seg ≡ held seg
held_is program held seg of some = by (held seg) (of seg) some where
  by : (o : Option (List ℕ)) → IfSome o (λ words. slice_get program seg ≡ Some words) → IsSome o → slice_get program seg ≡ o
  by None i s = cc
  by (Some words) i s = i

-- the word that was fetched is the program's
code_is : (program : List (List ℕ)) (held : ℕ → Option (List ℕ)) (seg p : ℕ) (w : Option ℕ) → slice_get program seg ≡ held seg
    → option_and_then (λ words. slice_get words p) (held seg) ≡ w → code_word program seg p ≡ w
unfolding code_word
code_is program held seg p w same is = rw same is

-- Steps

-- some session
abbrev pub some_machine : Machine
some_machine = opened [] 0 0 [] 0 0 0

-- a step that is not made
pub waited : (program : List (List ℕ)) (held : ℕ → Option (List ℕ)) (old new : Cpu) (seg : ℕ) → arrived held old.phase ≡ Err seg → new ≡ old
    → Steps program held old (Absent seg) new
waited program held old new seg h same =
    let w = waits_for held old.phase old.regs.seg seg h in
    record { needs = w.0; absent = w.1; same = same }

-- where the current segment is absent, no transfer was under way
pub fetch_waited : (program : List (List ℕ)) (held : ℕ → Option (List ℕ)) (old new : Cpu) (regs : Regs) → arrived held old.phase ≡ Ok tt
    → regs ≡ finished held old.phase old.regs → new ≡ record old { regs = regs; phase = Ready }
    → fetched (held regs.seg) regs.p ≡ Missing → Steps program held old (Absent regs.seg) new
fetch_waited program held old new regs here is made missing =
    let none = missing_is (held regs.seg) regs.p missing in
    let none_there = ap (λ (r : Regs). held r.seg) (sym is) ∙ none in
    let stood_still = arrived_held held old.phase old.regs here none_there in
    record {
      needs = ap (λ (r : Regs). r.seg) is ∙ finished_in held old.phase old.regs;
      absent = none;
      same = made ∙ ap (λ (r : Regs). record old { regs = r; phase = Ready }) (is ∙ stood_still.1) ∙ ap (λ (p : Phase). record old { phase = p }) (sym stood_still.0);
    }

module _ (program : List (List ℕ)) (held : ℕ → Option (List ℕ)) (old : Cpu) (regs : Regs) where
  -- the registers of the program's transfer are the store's
  pub same_registers : HoldsOf program held → arrived held old.phase ≡ Ok tt → regs ≡ finished held old.phase old.regs → registers program old ≡ regs
  same_registers of here is = sym (finished_of held program old.phase old.regs of here) ∙ sym is

  -- the segment that is needed is held
  present_is : regs ≡ finished held old.phase old.regs → IsSome (held regs.seg) → IsSome (held (needed old))
  present_is is some = subst (λ (k : ℕ). IsSome (held k)) (ap (λ (r : Regs). r.seg) is ∙ finished_in held old.phase old.regs) some

  -- the premise under which a word acts
  pub acting : HoldsOf program held → (w : ℕ) → fetched (held regs.seg) regs.p ≡ Word w → slice_get program regs.seg ≡ held regs.seg
  acting of w fetch = held_is program held regs.seg of (word_is (held regs.seg) regs.p w fetch).0

-- A word that was fetched, or that is not there

-- from a processor whose transfer was finished, with these registers: what the word at P is
module _ (program : List (List ℕ)) (old : Cpu) (regs : Regs) (w : Option ℕ)
    (same : registers program old ≡ regs) (word : code_word program regs.seg regs.p ≡ w) where
  at : (rest : Machine) → stood program old rest ≡ standing regs (seen old.stack) rest
  at rest = ap (λ (r : Regs). standing r (seen old.stack) rest) same

  outcome_is : (rest : Machine) → outcome program (stood program old rest) ≡ by_word program w (standing regs (seen old.stack) rest)
  unfolding outcome
  outcome_is rest = ap (λ (m : Machine). by_word program (code_word program m.regs.seg m.regs.p) m) (at rest)
      ∙ ap (λ (o : Option ℕ). by_word program o (standing regs (seen old.stack) rest)) word

  gate_is : (rest : Machine) → called_gate program (stood program old rest) ≡ gate_at program (option_map instruction w) (standing regs (seen old.stack) rest)
  unfolding called_gate
  gate_is rest = ap (λ (m : Machine). gate_at program (instruction_at program m.regs) m) (at rest)
      ∙ ap (λ (o : Option ℕ). gate_at program (option_map instruction o) (standing regs (seen old.stack) rest)) word

  phase_is : (rest : Machine) → phase_after program (stood program old rest) ≡ phase_at program (option_map instruction w) (standing regs (seen old.stack) rest)
  unfolding phase_after
  phase_is rest = ap (λ (m : Machine). phase_at program (instruction_at program m.regs) m) (at rest)
      ∙ ap (λ (o : Option ℕ). phase_at program (option_map instruction o) (standing regs (seen old.stack) rest)) word

  numbers_is : (answer : Result (Unit {0}) Trap) (next : Regs) → numbers_after (instruction_at program (registers program old)) (registers program old) (seen old.stack) answer next
      ≡ numbers_after (option_map instruction w) regs (seen old.stack) answer next
  numbers_is answer next = ap (λ (r : Regs). numbers_after (instruction_at program r) r (seen old.stack) answer next) same
      ∙ ap (λ (o : Option ℕ). numbers_after (option_map instruction o) regs (seen old.stack) answer next) word

-- past the segment's end
pub outside : (program : List (List ℕ)) (held : ℕ → Option (List ℕ)) (old : Cpu) (regs : Regs)
    → HoldsOf program held → arrived held old.phase ≡ Ok tt → regs ≡ finished held old.phase old.regs → fetched (held regs.seg) regs.p ≡ Outside
    → Steps program held old (Trapped CodeBounds) (record old { regs = regs; phase = Ready })
unfolding finished
outside program held old regs of here is fetch =
    let there = outside_is (held regs.seg) regs.p fetch in
    let word = code_is program held regs.seg regs.p None (held_is program held regs.seg of there.0) there.1 in
    let same = same_registers program held old regs of here is in
    record {
      present = present_is program held old regs is there.0;
      traps = λ rest. outcome_is program old regs None same word rest;
      same = λ rest. sym (at program old regs None same word rest);
      no_gate = λ rest. gate_is program old regs None same word rest;
      counts = sym (numbers_is program old regs None same word (Err CodeBounds) regs);
      same_segments = refl;
    }

-- an intrinsic is called in whole mode alone
whole_of : (split : Bool) (l : Result Label Trap) (i : Intrinsic) → Some i ≡ wanted split l → split ≡ false
whole_of true (Ok l) i h = cc
whole_of true (Err t) i h = cc
whole_of false l i h = refl

-- what came of a word is what is said of the step
pub acted : (program : List (List ℕ)) (held : ℕ → Option (List ℕ)) (old : Cpu) (regs : Regs) (w : ℕ)
    → HoldsOf program held → arrived held old.phase ≡ Ok tt → regs ≡ finished held old.phase old.regs → fetched (held regs.seg) regs.p ≡ Word w
    → (answer : Result Called Trap) (next : Regs) (stack : Stack)
    → Acts program (row program (instruction w)) (instruction w) regs (seen old.stack) answer next (seen stack)
    → Steps program held old (stepped answer) (record old { regs = next; phase = phase_left answer Ready; stack = stack })
unfolding finished
acted program held old regs w of here is fetch = λ answer next stack a. by answer next stack a where
  there : IsSome (held regs.seg) × (option_and_then (λ words. slice_get words regs.p) (held regs.seg) ≡ Some w)
  there = word_is (held regs.seg) regs.p w fetch

  word : code_word program regs.seg regs.p ≡ Some w
  word = code_is program held regs.seg regs.p (Some w) (held_is program held regs.seg of there.0) there.1

  same : registers program old ≡ regs
  same = same_registers program held old regs of here is

  by : (answer : Result Called Trap) (next : Regs) (stack : Stack)
      → Acts program (row program (instruction w)) (instruction w) regs (seen old.stack) answer next (seen stack)
      → Steps program held old (stepped answer) (record old { regs = next; phase = phase_left answer Ready; stack = stack })
  by (Ok (called.Went phase)) next stack a = record {
    present = present_is program held old regs is there.0;
    goes = λ rest. outcome_is program old regs (Some w) same word rest ∙ (a.goes rest).0;
    no_gate = λ rest. gate_is program old regs (Some w) same word rest ∙ sym (a.gate rest);
    phase = λ rest. a.led rest ∙ sym (phase_is program old regs (Some w) same word rest);
    waits = subst (λ (r : Regs). Waits phase r next) (sym same) (a.goes some_machine).1;
    counts = a.counts ∙ sym (numbers_is program old regs (Some w) same word (Ok tt) (finished (slice_get program) phase next));
    same_segments = refl;
  }
  by (Ok (called.Gate i)) next stack a = record {
    present = present_is program held old regs is there.0;
    calls = λ rest. outcome_is program old regs (Some w) same word rest ∙ (a.goes rest).0
        ∙ ap (λ (m : Machine). passing (performed i m)) (sym (at program old regs (Some w) same word rest));
    same = λ rest. (a.goes rest).1 ∙ sym (at program old regs (Some w) same word rest);
    gate = λ rest. gate_is program old regs (Some w) same word rest ∙ sym (a.gate rest);
    ready = refl;
    whole = ap (λ (m : Machine). m.split) (a.goes some_machine).1 ∙ whole_of _ _ i (a.gate some_machine);
    in_memory = ap (λ (n : Numbers). n.in_registers) a.counts;
    counts = a.counts;
    same_segments = refl;
  }
  by (Err t) next stack a = record {
    present = present_is program held old regs is there.0;
    traps = λ rest. outcome_is program old regs (Some w) same word rest ∙ (a.goes rest).0;
    same = λ rest. (a.goes rest).1 ∙ sym (at program old regs (Some w) same word rest);
    no_gate = λ rest. gate_is program old regs (Some w) same word rest ∙ sym (a.gate rest);
    counts = a.counts ∙ sym (numbers_is program old regs (Some w) same word (Err t) next);
    same_segments = refl;
  }
