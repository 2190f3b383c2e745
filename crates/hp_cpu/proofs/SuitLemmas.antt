-- What a step keeps.
-- 1. the room of both lists                                            (acted_room)
-- 2. in a valid program that processor and program suit each other     (acted_suits): a call goes where its label leads
use Rattle.std.proofs.Common.{◌≡◌, ℕ, ◌<◌, ◌≤◌, Bool, true, false, List, slice_get, length, refl, sym, ap, subst, arith}
use Rattle.std.specs.Prelude.{◌==◌, ◌||◌, nat_lt, Result, Ok, Err, Option, None, Some, if◌then◌else◌}
use Rattle.std.proofs.lemmas.Bool.Decides.{nat_tests}
use Rattle.std.proofs.lemmas.Option.{slice_get_within}
use Rattle.hp_word.specs.declared.endings.Trap.{Trap}
use Rattle.hp_word.specs.declared.endings.Trap.TheVariants.{BadEntry}
use Rattle.hp_instr.specs.declared.instruction.Instr.{Instr}
use Rattle.hp_instr.specs.declared.instruction.Instr.TheVariants as words
use Rattle.hp_instr.specs.declared.labels.Label.{Label}
use Rattle.hp_instr.specs.declared.labels.Label.TheVariants.{Local, External, Bad}
use Rattle.hp_instr.specs.Instructions.{instruction}
use Rattle.hp_instr.specs.Labels.{label}
use Rattle.hp_program.specs.declared.store.Fetched.TheVariants.{Word}
use Rattle.hp_program.specs.Stores.{fetched}
use Rattle.hp_program.specs.Valid.{entries_of, is_external, is_head, is_local_entry, label_of, leads}
use Rattle.hp_program.proofs.ValidLaws.{labels_lead, right_head}
use Rattle.hp_tos.specs.declared.stack.Stack.{Stack}
use Rattle.hp_tos.specs.StackView.{seen}
use Rattle.hp_session.specs.declared.registers.Regs.{Regs}
use Rattle.hp_session.specs.Keeping.{Continues}
use Rattle.hp_session.specs.State.{Machine}
use Rattle.hp_rows.specs.Standing.{standing}
use Rattle.hp_calls.specs.hp_call_rows.declared.call_rows.Frame.{Frame}
use Rattle.hp_calls.specs.hp_call_rows.CallRows.{current, label_at, marker_at}
use Rattle.hp_calls.specs.declared.phases.Phase.{Phase}
use Rattle.hp_calls.specs.declared.phases.Phase.TheVariants.{Ready, Entering, Returning}
use Rattle.hp_calls.specs.declared.phases.Called.{Called}
use Rattle.hp_calls.specs.declared.phases.Called.TheVariants.{Went, Gate}
use Rattle.hp_calls.specs.Phases.{HoldsOf, arrived, finished}
use Rattle.hp_flat.specs.Step.{row}
use Rattle.hp_flat.proofs.StepKeeping.{answered-continues}
use Rattle.hp_cpu.specs.declared.cpu.Cpu.{Cpu}
use Rattle.hp_cpu.specs.Stood.{stood}
use Rattle.hp_cpu.specs.Gates.{label_called}
use Rattle.hp_cpu.specs.Left.{phase_by_label, phase_by_marker, phase_of}
use Rattle.hp_cpu.specs.Acts.{Acts}
use Rattle.hp_cpu.specs.Answers.{phase_left}
use Rattle.hp_cpu.specs.Steps.{Goes}
use Rattle.hp_cpu.specs.Suits.{AreValid, IsTransferOf, KeepsRoom, Suits}
use Rattle.hp_cpu.proofs.RoomLemmas.{answered-sized}
use Rattle.hp_cpu.proofs.StepLemmas.{acted, some_machine, same_registers}

-- Room

-- what a word leaves
pub acted_room : (program : List (List ℕ)) (held : ℕ → Option (List ℕ)) (old : Cpu) (regs : Regs) (w : ℕ)
    → HoldsOf program held → arrived held old.phase ≡ Ok tt → regs ≡ finished held old.phase old.regs → fetched (held regs.seg) regs.p ≡ Word w
    → (answer : Result Called Trap) (next : Regs) (stack : Stack)
    → Acts program (row program (instruction w)) (instruction w) regs (seen old.stack) answer next (seen stack)
    → KeepsRoom old (record old { regs = next; phase = phase_left answer Ready; stack = stack })
acted_room program held old regs w of here is fetch (Ok (Went phase)) next stack a =
    let goes = acted program held old regs w of here is fetch (Ok (Went phase)) next stack a in
    let sized = answered-sized program _ _ (goes.goes some_machine) in
    record { same_limit = sized.same_limit; same_size = sized.same_size; same_capacity = a.same_capacity; same_extra_capacity = a.same_extra_capacity }
acted_room program held old regs w of here is fetch (Ok (Gate i)) next stack a = record {
  same_limit = ap (λ (m : Machine). m.stack_limit) (a.goes some_machine).1;
  same_size = ap (λ (m : Machine). length m.extra) (a.goes some_machine).1;
  same_capacity = a.same_capacity;
  same_extra_capacity = a.same_extra_capacity;
}
acted_room program held old regs w of here is fetch (Err t) next stack a = record {
  same_limit = ap (λ (m : Machine). m.stack_limit) (a.goes some_machine).1;
  same_size = ap (λ (m : Machine). length m.extra) (a.goes some_machine).1;
  same_capacity = a.same_capacity;
  same_extra_capacity = a.same_extra_capacity;
}

-- Where a valid program's transfers lead

-- the segment of the registers of a finished transfer
stands_in : (program : List (List ℕ)) (phase : Phase) (regs : Regs) → regs.seg < length program → IsTransferOf program phase
    → (finished (slice_get program) phase regs).seg < length program
unfolding finished is_local_entry
stands_in program Ready regs current transfer = current
stands_in program (Entering seg entry) regs current transfer = by (slice_get program seg) refl transfer where
  by : (o : Option (List ℕ)) → slice_get program seg ≡ o → is_local_entry o entry ≡ true → seg < length program
  by None is t = cc
  by (Some words) is t = slice_get_within program seg words is
stands_in program (Returning seg offset) regs current transfer = transfer

module _ (program : List (List ℕ)) (main entry : ℕ) (globals : List ℕ) (valid : AreValid program main entry globals) where
  -- no program has a segment with the gate's number
  no_gate_there : (seg : ℕ) → seg < length program → (seg == 255) ≡ false
  unfolding is_head
  no_gate_there seg there =
      let head = right_head program main entry globals valid in
      let few : length program ≤ 62 = grind (arith, nat_tests) in
      grind (arith, nat_tests)

  -- an external label of a table that does not lead to the gate leads to a local entry
  label_leads : (m : Machine) (n seg first : ℕ) → m.regs.seg < length program → seg < length program → label_at program n m ≡ Ok (External seg first)
      → is_local_entry (slice_get program seg) first ≡ true
  unfolding label_at leads is_external
  label_leads m n seg first here there is = by ((n == 0) || nat_lt (entries_of (current program m)) n) refl is where
    l : Label
    l = label (label_of (current program m) n)

    by : (none : Bool) → ((n == 0) || nat_lt (entries_of (current program m)) n) ≡ none → (if none then Err BadEntry else Ok l) ≡ Ok (External seg first)
        → is_local_entry (slice_get program seg) first ≡ true
    by true e k = cc
    by false e k =
        let led = labels_lead program main entry globals valid m.regs.seg n here (grind (arith, nat_tests)) (grind (arith, nat_tests)) in
        let same : l ≡ External seg first = cc in
        let external = rw same at led in
        rw (no_gate_there seg there) at external

  -- so does the label of a call
  call_leads : (i : Instr) (m : Machine) (seg first : ℕ) → m.regs.seg < length program → seg < length program → label_called program i m ≡ Ok (External seg first)
      → is_local_entry (slice_get program seg) first ≡ true
  call_leads (words.Pair left right) m seg first here there is = cc
  call_leads (words.Shifted kind count) m seg first here there is = cc
  call_leads (words.Short test back d) m seg first here there is = cc
  call_leads (words.Immediate which n) m seg first here there is = cc
  call_leads (words.Control which n) m seg first here there is = by (which == 0) is where
    by : (pcal : Bool) → (if pcal then label_at program n m else Err BadEntry) ≡ Ok (External seg first) → is_local_entry (slice_get program seg) first ≡ true
    by true k = label_leads m n seg first here there k
    by false k = cc
  call_leads (words.Memory major second x i mode) m seg first here there is = cc
  call_leads (words.LoadCode back d) m seg first here there is = cc
  call_leads (words.Branch i back d) m seg first here there is = cc
  call_leads (words.OnCode mask back d) m seg first here there is = cc
  call_leads (words.Loop modify back d) m seg first here there is = cc
  call_leads (words.Illegal w) m seg first here there is = cc

  -- a call on its way to another segment went through a label to it
  entering_through : (i : Instr) (m : Machine) (seg first : ℕ) → Entering seg first ≡ phase_of program i m → label_called program i m ≡ Ok (External seg first)
  entering_through (words.Pair left right) m seg first is = cc
  entering_through (words.Shifted kind count) m seg first is = cc
  entering_through (words.Short test back d) m seg first is = cc
  entering_through (words.Immediate which n) m seg first is = cc
  entering_through (words.Control which n) m seg first is = by (which == 0) (which == 1) (label_at program n m) (marker_at m.regs.q m) is where
    by : (pcal exit : Bool) (l : Result Label Trap) (k : Result Frame Trap)
        → Entering seg first ≡ (if pcal then phase_by_label l else if exit then phase_by_marker k else Ready)
        → (if pcal then l else Err BadEntry) ≡ Ok (External seg first)
    by true exit (Ok (Local offset)) k e = cc
    by true exit (Ok (External to entry)) k e = cc
    by true exit (Ok (Bad w)) k e = cc
    by true exit (Err t) k e = cc
    by false true l (Ok k) e = cc
    by false true l (Err t) e = cc
    by false false l k e = cc
  entering_through (words.Memory major second x i mode) m seg first is = cc
  entering_through (words.LoadCode back d) m seg first is = cc
  entering_through (words.Branch i back d) m seg first is = cc
  entering_through (words.OnCode mask back d) m seg first is = cc
  entering_through (words.Loop modify back d) m seg first is = cc
  entering_through (words.Illegal w) m seg first is = cc

  -- a step that is done goes on from the session before it
  goes_on : (held : ℕ → Option (List ℕ)) (old new : Cpu) → Goes program held old new
      → Continues (length program) (stood program old some_machine) (stood program new some_machine)
  goes_on held old new goes = answered-continues program (labels_lead program main entry globals valid) _ _ (goes.goes some_machine)

  module _ (held : ℕ → Option (List ℕ)) (old : Cpu) (regs : Regs) (w : ℕ) (of : HoldsOf program held) (here : arrived held old.phase ≡ Ok tt)
      (is : regs ≡ finished held old.phase old.regs) (fetch : fetched (held regs.seg) regs.p ≡ Word w) where
    -- the segment in which the step was made
    stood_in : Suits program old → regs.seg < length program
    stood_in suits = subst (λ (r : Regs). r.seg < length program) (same_registers program held old regs of here is)
        (stands_in program old.phase old.regs suits.current suits.transfer)

    pub acted_suits : (answer : Result Called Trap) (next : Regs) (stack : Stack)
        → Acts program (row program (instruction w)) (instruction w) regs (seen old.stack) answer next (seen stack)
        → Suits program old → Suits program (record old { regs = next; phase = phase_left answer Ready; stack = stack })
    unfolding finished
    acted_suits (Ok (Went Ready)) next stack a suits =
        let on = goes_on held old _ (acted program held old regs w of here is fetch (Ok (Went Ready)) next stack a) in
        record { count = suits.count; current = on.within (stands_in program old.phase old.regs suits.current suits.transfer); transfer = tt }
    acted_suits (Ok (Went (Entering seg first))) next stack a suits =
        let on = goes_on held old _ (acted program held old regs w of here is fetch (Ok (Went (Entering seg first))) next stack a) in
        let there = on.within (stands_in program old.phase old.regs suits.current suits.transfer) in
        record {
          count = suits.count;
          current = subst (λ (k : ℕ). k < length program) (sym (a.goes some_machine).1.0) (stood_in suits);
          transfer = call_leads (instruction w) (standing regs (seen old.stack) some_machine) seg first (stood_in suits) there
              (entering_through (instruction w) (standing regs (seen old.stack) some_machine) seg first (a.led some_machine));
        }
    acted_suits (Ok (Went (Returning seg offset))) next stack a suits =
        let on = goes_on held old _ (acted program held old regs w of here is fetch (Ok (Went (Returning seg offset))) next stack a) in
        record {
          count = suits.count;
          current = subst (λ (k : ℕ). k < length program) (sym (a.goes some_machine).1.0) (stood_in suits);
          transfer = on.within (stands_in program old.phase old.regs suits.current suits.transfer);
        }
    acted_suits (Ok (Gate i)) next stack a suits = record {
      count = suits.count;
      current = subst (λ (k : ℕ). k < length program) (sym (ap (λ (m : Machine). m.regs.seg) (a.goes some_machine).1)) (stood_in suits);
      transfer = tt;
    }
    acted_suits (Err t) next stack a suits = record {
      count = suits.count;
      current = subst (λ (k : ℕ). k < length program) (sym (ap (λ (m : Machine). m.regs.seg) (a.goes some_machine).1)) (stood_in suits);
      transfer = tt;
    }

-- A step that did no word

-- with a transfer finished at most, the stack is as it was
pub no_word_suits : (program : List (List ℕ)) (held : ℕ → Option (List ℕ)) (old : Cpu) (regs : Regs) → HoldsOf program held → arrived held old.phase ≡ Ok tt
    → regs ≡ finished held old.phase old.regs → Suits program old → Suits program (record old { regs = regs; phase = Ready })
no_word_suits program held old regs of here is suits = record {
  count = suits.count;
  current = subst (λ (r : Regs). r.seg < length program) (same_registers program held old regs of here is)
      (stands_in program old.phase old.regs suits.current suits.transfer);
  transfer = tt;
}
