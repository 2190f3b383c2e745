-- What a group's crate says of an instruction, as what is said of any word.
-- 1. an answer with no transfer      (plain_acts), for each group
-- 2. calls and returns               (call_acts, exit_acts)
-- 3. a word done with R cleared      (at_left_acts)
-- 4. the pair in a word of major 0   (stack_pair, stack_illegal)
use Rattle.std.proofs.Common.{◌≡◌, ℕ, ◌+◌, ◌/◌, ◌%◌, ◌^◌, ◌<◌, Bool, true, false, List, length, slice_get, refl, sym, ap, subst, ◌∙◌, arith, []}
use Rattle.std.specs.Prelude.{◌≢◌, ◌&&◌, ◌==◌, nat_le, Result, Ok, Err, None, IfOk, OnOk, MatchResult, ⊤, ◌-◌, if◌then◌else◌}
use Rattle.std.proofs.lemmas.Bool.Decides.{nat_tests}
use Rattle.hp_word.specs.declared.endings.Trap.{Trap}
use Rattle.hp_word.specs.declared.endings.Trap.TheVariants as traps
use Rattle.hp_word.specs.declared.intrinsics.Intrinsic.{Intrinsic}
use Rattle.hp_word.specs.Intrinsics as intrinsics
use Rattle.hp_word.specs.Intrinsics.{Effect, taken_words}
use Rattle.hp_instr.specs.Bits.{bits}
use Rattle.hp_instr.specs.Fields.{is_op}
use Rattle.hp_instr.specs.Groups.{group}
use Rattle.hp_instr.specs.Instructions.{instruction, op, pair}
use Rattle.hp_instr.specs.declared.groups.Group.{Group}
use Rattle.hp_instr.specs.declared.groups.Group.TheVariants.{Stack, Field, Reference, Move, Call, Illegal}
use Rattle.hp_instr.specs.declared.instruction.Op.{Op}
use Rattle.hp_instr.specs.declared.instruction.Instr.{Instr}
use Rattle.hp_instr.specs.declared.instruction.Instr.TheVariants as words
use Rattle.hp_instr.specs.declared.labels.Label.{Label}
use Rattle.hp_tos.specs.Seen.{Seen}
use Rattle.hp_tos.specs.Calls.{flushed}
use Rattle.hp_session.specs.declared.registers.Regs.{Regs}
use Rattle.hp_session.specs.Places.{read_at, area}
use Rattle.hp_session.specs.State.{Machine, Outcome, Does, opened, then_with, passing}
use Rattle.hp_rows.specs.Standing.{standing}
use Rattle.hp_rows.specs.Numbers.{numbers, exchanging, moved}
use Rattle.hp_rows.specs.Performs.{Performs}
use Rattle.hp_rows.specs.Flushes.{Flushes, flush_moved}
use Rattle.hp_calls.specs.hp_call_rows.declared.call_rows.Frame.{Frame}
use Rattle.hp_calls.specs.hp_call_rows.GateRows.{after_call, effect, performed}
use Rattle.hp_calls.specs.hp_call_rows.CallRows.{called, called_through, exited, label_at, marker_at, returned, subroutine_called, subroutine_left}
use Rattle.hp_stackops.specs.StackUses.{used_by}
use Rattle.hp_fields.specs.FieldRows.{field_row}
use Rattle.hp_fields.specs.FieldUses.{field_uses}
use Rattle.hp_memref.specs.ReferenceRows.{reference_row}
use Rattle.hp_memref.specs.ReferenceUses.{reference_uses}
use Rattle.hp_moves.specs.declared.steps.MoveStep.{MoveStep}
use Rattle.hp_moves.specs.MoveSteps.{MovesOn, as_step, instruction_row, is_over, place_after}
use Rattle.hp_moves.specs.MoveUses.{move_uses}
use Rattle.hp_calls.specs.declared.phases.Phase.{Phase}
use Rattle.hp_calls.specs.declared.phases.Phase.TheVariants.{Ready, Entering, Returning}
use Rattle.hp_calls.specs.declared.phases.Called.{Called}
use Rattle.hp_calls.specs.declared.phases.Called.TheVariants.{Went, Gate}
use Rattle.hp_calls.specs.Phases.{finished}
use Rattle.hp_calls.specs.Transfers.{IsThrough, Transfers, Waits, handed_on, wanted, went}
use Rattle.hp_flat.specs.Step.{at_left, control_row, pair_row, row, word_row}
use Rattle.hp_cpu.specs.Gates.{gate_of, label_called}
use Rattle.hp_cpu.specs.Left.{phase_by_label, phase_by_marker, phase_of}
use Rattle.hp_cpu.specs.Counts.{call_pushes, group_numbers, has_passed, instruction_numbers}
use Rattle.hp_cpu.specs.Acts.{Acts}
use Rattle.hp_cpu.specs.Answers.{done}
use Rattle.hp_cpu.specs.Restored.{cleared, restored}
use Rattle.hp_cpu.proofs.RowLemmas.{call_codes, field_is, reference_is, move_is, illegal_is, whole_is, no_gate, no_phase}

-- Answers with no transfer

-- a word that is done, or traps
plain_acts : (program : List (List ℕ)) (shown : Machine → Outcome) (i : Instr) (regs : Regs) (s : Seen) (answer : Result (Unit {0}) Trap) (next : Regs) (after : Seen)
    → ((rest : Machine) → Does (shown (standing regs s rest)) (standing regs s rest) answer (standing next after rest))
    → ((rest : Machine) → gate_of program i (standing regs s rest) ≡ None)
    → ((rest : Machine) → phase_of program i (standing regs s rest) ≡ Ready)
    → numbers after ≡ instruction_numbers i regs s answer next
    → after.capacity ≡ s.capacity → after.extra_capacity ≡ s.extra_capacity
    → Acts program shown i regs s (done answer) next after
unfolding finished
plain_acts program shown i regs s (Ok u) next after does none ready counted capacity extra_capacity = record {
  goes = λ rest. (does rest, tt);
  gate = λ rest. sym (none rest);
  led = λ rest. sym (ready rest);
  counts = counted;
  same_capacity = capacity;
  same_extra_capacity = extra_capacity;
}
plain_acts program shown i regs s (Err t) next after does none ready counted capacity extra_capacity = record {
  goes = does;
  gate = λ rest. sym (none rest);
  led = λ rest. tt;
  counts = counted;
  same_capacity = capacity;
  same_extra_capacity = extra_capacity;
}

-- the same row under another name
renamed : (expected shown : Outcome) (old : Machine) (answer : Result (Unit {0}) Trap) (new : Machine) → shown ≡ expected
    → Does expected old answer new → Does shown old answer new
renamed expected shown old answer new is does = subst (λ (o : Outcome). Does o old answer new) (sym is) does

-- the numbers of an instruction are those of its group
numbers_in : (g : Group) (i : Instr) (regs : Regs) (s : Seen) (answer : Result (Unit {0}) Trap) (next : Regs) → group i ≡ g
    → instruction_numbers i regs s answer next ≡ group_numbers g i regs s answer next
unfolding instruction_numbers
numbers_in g i regs s answer next h = rw h refl

-- some session
abbrev some_machine : Machine
some_machine = opened [] 0 0 [] 0 0 0

-- A move is over exactly where P has passed

passed_over : (regs next : Regs) (over : Bool) → next.p ≡ place_after over regs.p → has_passed regs next ≡ over
passed_over regs next true is = rw is (same ((regs.p + 1) % 65536)) where
  same : (p : ℕ) → (p == p) ≡ true
  same p = grind (arith, nat_tests)
passed_over regs next false is = rw is (apart regs.p) where
  apart : (p : ℕ) → (p == (p + 1) % 65536) ≡ false
  apart p = let other : p ≢ (p + 1) % 65536 = omega arith in grind (arith, nat_tests)

-- each element that was not the last leaves P, and so does a trap
over_is : (regs : Regs) (s : Seen) (answer : Result MoveStep Trap) (next : Regs) (after : Seen)
    → OnOk answer (next.p ≡ place_after (is_over answer) regs.p)
    → ((rest : Machine) → MatchResult (as_step answer) (λ _. ⊤) (λ t. standing next after rest ≡ standing regs s rest))
    → has_passed regs next ≡ is_over answer
over_is regs s (Ok step) next after place stays = passed_over regs next (is_over (Ok step)) place
over_is regs s (Err t) next after place stays = passed_over regs next false (ap (λ (m : Machine). m.regs.p) (stays some_machine))

-- what a trap leaves of what a row says
left_alone : (expected : Outcome) (old : Machine) (answer : Result (Unit {0}) Trap) (new : Machine) → Does expected old answer new
    → MatchResult answer (λ _. ⊤) (λ t. new ≡ old)
left_alone expected old (Ok u) new does = tt
left_alone expected old (Err t) new does = does.1

module _ (program : List (List ℕ)) (i : Instr) (regs : Regs) (s : Seen) (next : Regs) (after : Seen) where
  pub field_acts : (answer : Result (Unit {0}) Trap) → group i ≡ Field → Performs (field_row i) (field_uses i) regs s answer next after
      → Acts program (word_row program i) i regs s (done answer) next after
  field_acts answer h p = plain_acts program _ i regs s answer next after (λ rest. renamed _ _ _ answer _ (field_is program i _ h) (p.does rest))
      (λ rest. no_gate program i _ (λ k. cc)) (λ rest. no_phase program i _ (λ k. cc)) (p.moves ∙ sym (numbers_in Field i regs s answer next h)) p.same_capacity p.same_extra_capacity

  pub reference_acts : (answer : Result (Unit {0}) Trap) → group i ≡ Reference → Performs (reference_row program i) (reference_uses i s) regs s answer next after
      → Acts program (word_row program i) i regs s (done answer) next after
  reference_acts answer h p = plain_acts program _ i regs s answer next after (λ rest. renamed _ _ _ answer _ (reference_is program i _ h) (p.does rest))
      (λ rest. no_gate program i _ (λ k. cc)) (λ rest. no_phase program i _ (λ k. cc)) (p.moves ∙ sym (numbers_in Reference i regs s answer next h)) p.same_capacity p.same_extra_capacity

  pub move_acts : (answer : Result MoveStep Trap) → group i ≡ Move → MovesOn (instruction_row program i) (move_uses i) regs s answer next after
      → Acts program (word_row program i) i regs s (done (as_step answer)) next after
  move_acts answer h p =
      let over = over_is regs s answer next after p.place (λ rest. left_alone _ _ (as_step answer) _ (p.performs.does rest)) in
      plain_acts program _ i regs s (as_step answer) next after
      (λ rest. renamed _ _ _ (as_step answer) _ (move_is program i _ h) (p.performs.does rest))
      (λ rest. no_gate program i _ (λ k. cc)) (λ rest. no_phase program i _ (λ k. cc))
      (p.performs.moves ∙ ap (λ (b : Bool). moved (move_uses i b) (as_step answer) s) (sym over) ∙ sym (numbers_in Move i regs s (as_step answer) next h))
      p.performs.same_capacity p.performs.same_extra_capacity

-- a word that is no instruction
pub illegal_acts : (program : List (List ℕ)) (i : Instr) (regs : Regs) (s : Seen) → group i ≡ Illegal
    → Acts program (word_row program i) i regs s (Err traps.Illegal) regs s
illegal_acts program i regs s h = plain_acts program _ i regs s (Err traps.Illegal) regs s (λ rest. (illegal_is program i _ h, refl))
    (λ rest. no_gate program i _ (λ k. cc)) (λ rest. no_phase program i _ (λ k. cc)) (sym (numbers_in Illegal i regs s (Err traps.Illegal) regs h)) refl refl

-- Calls and returns

-- nothing exchanged for nothing, after a flush
exchanging_none : (s : Seen) → exchanging 0 0 (numbers (flushed s)) ≡ numbers (flushed s)
exchanging_none s =
    let e : ((s.spills + s.in_registers) % 2 ^ 64 + 0) % 2 ^ 64 ≡ (s.spills + s.in_registers) % 2 ^ 64 = omega arith in
    ap (λ (n : ℕ). numbers (record (flushed s) { spills = n })) e

module _ (program : List (List ℕ)) (n : ℕ) (regs : Regs) (s : Seen) (next : Regs) (after : Seen) where
  -- a call that is done went on through its label
  call_led : (m : Machine) (out : Machine) (phase : Phase) → called program n m ≡ Ok out
      → IfOk (label_at program n m) (λ l. IsThrough l (Went phase)) → phase ≡ phase_by_label (label_at program n m)
  unfolding called
  call_led m out phase goes through = by m.split (label_at program n m) goes through where
    by : (split : Bool) (l : Result Label Trap) → (if split then Err traps.Mode else then_with l (λ l. called_through program l m)) ≡ Ok out
        → IfOk l (λ l. IsThrough l (Went phase)) → phase ≡ phase_by_label l
    by true l g t = cc
    by false (Err trap) g t = cc
    by false (Ok l) g t = t

  pub call_acts : (answer : Result Called Trap) → Transfers program (called program n) 4 regs s answer next after
      → ((rest : Machine) → IfOk answer (λ c. IfOk (label_at program n (standing regs s rest)) (λ l. IsThrough l c)))
      → ((rest : Machine) → handed_on answer ≡ wanted s.split (label_at program n (standing regs s rest)))
      → Acts program (word_row program (words.Control 0 n)) (words.Control 0 n) regs s answer next after
  unfolding word_row control_row instruction_numbers
  call_acts (Ok (Went phase)) t through gate = record {
    goes = t.goes;
    gate = gate;
    led = λ rest. call_led (standing regs s rest) _ phase (t.goes rest).0 (through rest);
    counts = t.moves;
    same_capacity = t.same_capacity;
    same_extra_capacity = t.same_extra_capacity;
  }
  call_acts (Ok (Gate g)) t through gate = record {
    goes = t.goes;
    gate = gate;
    led = λ rest. tt;
    counts = t.moves ∙ exchanging_none s;
    same_capacity = t.same_capacity;
    same_extra_capacity = t.same_extra_capacity;
  }
  call_acts (Err trap) t through gate = record {
    goes = t.goes;
    gate = gate;
    led = λ rest. tt;
    counts = t.moves;
    same_capacity = t.same_capacity;
    same_extra_capacity = t.same_extra_capacity;
  }

  -- a return that is done goes by its marker
  exit_led : (m : Machine) (out : Machine) (phase : Phase) → exited program n m ≡ Ok out
      → IfOk (marker_at m.regs.q m) (λ k. phase ≡ Returning (bits 8 15 k.status) k.offset) → phase ≡ phase_by_marker (marker_at m.regs.q m)
  unfolding exited
  exit_led m out phase goes through = by m.split (marker_at m.regs.q m) goes through where
    by : (split : Bool) (k : Result Frame Trap) → (if split then Err traps.Mode else then_with k (λ k. returned program n k m)) ≡ Ok out
        → IfOk k (λ k. phase ≡ Returning (bits 8 15 k.status) k.offset) → phase ≡ phase_by_marker k
    by true k g t = cc
    by false (Err trap) g t = cc
    by false (Ok k) g t = t

  pub exit_acts : (answer : Result Phase Trap) → Transfers program (exited program n) 0 regs s (went answer) next after
      → ((rest : Machine) → IfOk answer (λ phase. IfOk (marker_at regs.q (standing regs s rest)) (λ k. phase ≡ Returning (bits 8 15 k.status) k.offset)))
      → Acts program (word_row program (words.Control 1 n)) (words.Control 1 n) regs s (went answer) next after
  unfolding word_row control_row instruction_numbers
  exit_acts (Ok phase) t through = record {
    goes = t.goes;
    gate = λ rest. refl;
    led = λ rest. exit_led (standing regs s rest) _ phase (t.goes rest).0 (through rest);
    counts = t.moves;
    same_capacity = t.same_capacity;
    same_extra_capacity = t.same_extra_capacity;
  }
  exit_acts (Err trap) t through = record {
    goes = t.goes;
    gate = λ rest. refl;
    led = λ rest. tt;
    counts = t.moves;
    same_capacity = t.same_capacity;
    same_extra_capacity = t.same_extra_capacity;
  }

-- after a flush no answer but a trap says more than how many words were pushed
flushed_is : (i : Instr) (left : ℕ) (regs : Regs) (s : Seen) (answer : Result (Unit {0}) Trap) (next : Regs) → group i ≡ Call → call_pushes i ≡ left
    → instruction_numbers i regs s answer next ≡ flush_moved left answer s
flushed_is i left regs s answer next h pushes = numbers_in Call i regs s answer next h ∙ ap (λ (n : ℕ). flush_moved n answer s) pushes

module _ (program : List (List ℕ)) (n : ℕ) (regs : Regs) (s : Seen) (next : Regs) (after : Seen) where
  pub subroutine_left_acts : (answer : Result (Unit {0}) Trap) → Flushes (subroutine_left n) 0 regs s answer next after
      → Acts program (word_row program (words.Control 2 n)) (words.Control 2 n) regs s (done answer) next after
  unfolding word_row control_row
  subroutine_left_acts answer f = plain_acts program _ (words.Control 2 n) regs s answer next after f.does (λ rest. refl) (λ rest. refl)
      (f.moves ∙ sym (flushed_is (words.Control 2 n) 0 regs s answer next refl refl)) f.same_capacity f.same_extra_capacity

  pub subroutine_called_acts : (answer : Result (Unit {0}) Trap) → Flushes (subroutine_called program n) 1 regs s answer next after
      → Acts program (word_row program (words.Control 3 n)) (words.Control 3 n) regs s (done answer) next after
  unfolding word_row control_row
  subroutine_called_acts answer f = plain_acts program _ (words.Control 3 n) regs s answer next after f.does (λ rest. refl) (λ rest. refl)
      (f.moves ∙ sym (flushed_is (words.Control 3 n) 1 regs s answer next refl refl)) f.same_capacity f.same_extra_capacity

-- a call that is neither PCAL, EXIT nor SXIT is SCAL
pub last_call : (which n k : ℕ) → group (words.Control which n) ≡ Call → which ≡ k → k ≢ 0 → k ≢ 1 → k ≢ 2 → which ≡ 3
last_call which n k h is no_pcal no_exit no_sxit = let low : nat_le which 3 ≡ true = call_codes which h in grind (arith, nat_tests)

-- Words done with R cleared

-- no label depends on R
label_left : (program : List (List ℕ)) (i : Instr) (m : Machine) → label_called program i (at_left m) ≡ label_called program i m
unfolding label_at
label_left program (words.Pair left right) m = refl
label_left program (words.Shifted kind count) m = refl
label_left program (words.Short test back d) m = refl
label_left program (words.Immediate which n) m = refl
label_left program (words.Control which n) m = refl
label_left program (words.Memory major second x i mode) m = refl
label_left program (words.LoadCode back d) m = refl
label_left program (words.Branch i back d) m = refl
label_left program (words.OnCode mask back d) m = refl
label_left program (words.Loop modify back d) m = refl
label_left program (words.Illegal w) m = refl

-- nor does what an intrinsic leaves, when P has passed its call
passing_left : (i : Intrinsic) (m : Machine) → passing (performed i (at_left m)) ≡ passing (performed i m)
unfolding performed after_call
passing_left i m = by (nat_le (taken_words i) (length m.stack)) (intrinsics.outcome (length m.stack) (m.room - length m.printed) (effect i m)) where
  by : (enough : Bool) (o : Result Effect Trap)
      → passing (if enough then then_with o (λ e. Ok (after_call (taken_words i) e (at_left m))) else Err traps.StackUnderflow)
      ≡ passing (if enough then then_with o (λ e. Ok (after_call (taken_words i) e m)) else Err traps.StackUnderflow)
  by true (Ok e) = refl
  by true (Err t) = refl
  by false o = refl

-- nor the numbers of what is no pair
numbers_left : (i : Instr) (regs : Regs) (s : Seen) (answer : Result (Unit {0}) Trap) (next : Regs) (right : Bool) → group i ≢ Stack
    → instruction_numbers i (cleared regs) s answer next ≡ instruction_numbers i regs s answer (record next { right = right })
unfolding instruction_numbers
numbers_left i regs s answer next right other = by (group i) other where
  by : (g : Group) → g ≢ Stack → group_numbers g i (cleared regs) s answer next ≡ group_numbers g i regs s answer (record next { right = right })
  by Stack pair = absurd (pair refl)
  by Field pair = refl
  by Reference pair = refl
  by Move pair = refl
  by Call pair = refl
  by Illegal pair = refl

-- the session with R as it was
back_again : (regs next : Regs) (s after : Seen) (rest : Machine) → standing next after rest ≡ standing (cleared regs) s rest
    → standing (record next { right = regs.right }) after rest ≡ standing regs s rest
back_again regs next s after rest e = ap (λ (m : Machine). record m { regs = record m.regs { right = regs.right } }) e

waits_left : (phase : Phase) (regs next : Regs) → Waits phase (cleared regs) next → Waits phase regs next
waits_left Ready regs next w = tt
waits_left (Entering seg entry) regs next w = w
waits_left (Returning seg offset) regs next w = w

-- nor does the phase that an instruction leaves
phase_left : (program : List (List ℕ)) (i : Instr) (m : Machine) → phase_of program i (at_left m) ≡ phase_of program i m
unfolding label_at marker_at read_at area
phase_left program (words.Pair left right) m = refl
phase_left program (words.Shifted kind count) m = refl
phase_left program (words.Short test back d) m = refl
phase_left program (words.Immediate which n) m = refl
phase_left program (words.Control which n) m = refl
phase_left program (words.Memory major second x i mode) m = refl
phase_left program (words.LoadCode back d) m = refl
phase_left program (words.Branch i back d) m = refl
phase_left program (words.OnCode mask back d) m = refl
phase_left program (words.Loop modify back d) m = refl
phase_left program (words.Illegal w) m = refl

pub at_left_acts : (program : List (List ℕ)) (i : Instr) (regs : Regs) (s : Seen) (answer : Result Called Trap) (next : Regs) (after : Seen) → group i ≢ Stack
    → Acts program (word_row program i) i (cleared regs) s answer next after
    → Acts program (row program i) i regs s answer (restored answer regs.right next) after
at_left_acts program i regs s (Ok (Went phase)) next after other a = record {
  goes = λ rest. (whole_is program i (standing regs s rest) other ∙ (a.goes rest).0, waits_left phase regs next (a.goes rest).1);
  gate = λ rest. a.gate rest ∙ ap (wanted s.split) (label_left program i (standing regs s rest));
  led = λ rest. a.led rest ∙ phase_left program i (standing regs s rest);
  counts = a.counts
      ∙ numbers_left i regs s (Ok tt) (finished (slice_get program) phase next) (finished (slice_get program) phase next).right other;
  same_capacity = a.same_capacity;
  same_extra_capacity = a.same_extra_capacity;
}
at_left_acts program i regs s (Ok (Gate g)) next after other a = record {
  goes = λ rest. (whole_is program i (standing regs s rest) other ∙ (a.goes rest).0 ∙ passing_left g (standing regs s rest), back_again regs next s after rest (a.goes rest).1);
  gate = λ rest. a.gate rest ∙ ap (wanted s.split) (label_left program i (standing regs s rest));
  led = λ rest. tt;
  counts = a.counts;
  same_capacity = a.same_capacity;
  same_extra_capacity = a.same_extra_capacity;
}
at_left_acts program i regs s (Err t) next after other a = record {
  goes = λ rest. (whole_is program i (standing regs s rest) other ∙ (a.goes rest).0, back_again regs next s after rest (a.goes rest).1);
  gate = λ rest. a.gate rest ∙ ap (wanted s.split) (label_left program i (standing regs s rest));
  led = λ rest. tt;
  counts = a.counts ∙ numbers_left i regs s (Err t) next regs.right other;
  same_capacity = a.same_capacity;
  same_extra_capacity = a.same_extra_capacity;
}

-- Pairs

pub pair_acts : (program : List (List ℕ)) (left right : Op) (regs : Regs) (s : Seen) (answer : Result (Unit {0}) Trap) (next : Regs) (after : Seen)
    → Performs (pair_row left right) (used_by (if regs.right then right else left).code) regs s answer next after
    → Acts program (row program (words.Pair left right)) (words.Pair left right) regs s (done answer) next after
unfolding row instruction_numbers
pair_acts program left right regs s answer next after p =
    plain_acts program _ (words.Pair left right) regs s answer next after p.does (λ rest. refl) (λ rest. refl) p.moves p.same_capacity p.same_extra_capacity

-- a word below 4,096 has its operations in its upper and its lower six bits
by_halves : (w : ℕ) → w < 4096
    → instruction w ≡ (if is_op (w / 64) && is_op (w % 64) then words.Pair (op (w / 64)) (op (w % 64)) else words.Illegal w)
unfolding instruction pair
by_halves w low =
    let major : bits 0 3 w ≡ 0 = omega arith in
    let left : bits 4 9 w ≡ w / 64 = omega arith in
    let right : bits 10 15 w ≡ w % 64 = omega arith in
    rw (major, left, right) refl

pub stack_pair : (program : List (List ℕ)) (w : ℕ) (regs : Regs) (s : Seen) (answer : Result Called Trap) (next : Regs) (after : Seen)
    → w < 4096 → (is_op (w / 64) && is_op (w % 64)) ≡ true
    → Acts program (row program (words.Pair (op (w / 64)) (op (w % 64)))) (words.Pair (op (w / 64)) (op (w % 64))) regs s answer next after
    → Acts program (row program (instruction w)) (instruction w) regs s answer next after
stack_pair program w regs s answer next after low both =
    subst (λ (i : Instr). Acts program (row program i) i regs s answer next after) (sym (by_halves w low ∙ rw both refl))

-- one that is not listed makes the word illegal
pub stack_illegal : (program : List (List ℕ)) (w : ℕ) (regs : Regs) (s : Seen) → w < 4096 → (is_op (w / 64) && is_op (w % 64)) ≡ false
    → Acts program (row program (instruction w)) (instruction w) regs s (Err traps.Illegal) regs s
unfolding row
stack_illegal program w regs s low none =
    subst (λ (i : Instr). Acts program (row program i) i regs s (Err traps.Illegal) regs s) (sym (by_halves w low ∙ rw none refl))
    (at_left_acts program (words.Illegal w) regs s (Err traps.Illegal) (cleared regs) s (λ k. cc) (illegal_acts program (words.Illegal w) (cleared regs) s refl))
