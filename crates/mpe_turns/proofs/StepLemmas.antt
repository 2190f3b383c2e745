-- One step of a session is one step of its world's session.
-- 1. what the view holds is what is loaded                     (held_live, segment_needed)
-- 2. a session of a program needs one of its segments          (needed_within, waits_for)
-- 3. the numbers after a step are those of the definition      (numbers_seen)
-- 4. a step by what the processor answered                     (went, trapped, served)
use Rattle.std.proofs.Common.{◌≡◌, ℕ, ◌+◌, ◌<◌, ◌≤◌, Bool, true, false, List, length, Vec, Global, Option, None, Some, refl, sym, ap, subst, ◌∙◌, arith}
use Rattle.std.specs.Prelude.{◌&&◌, is_some, IsSome, option_map, slice_get, unwrap_or, Result, Ok, Err}
use Rattle.std.proofs.lemmas.Bool.{lt-ltb}
use Rattle.std.proofs.lemmas.Bool.Decides.{nat_tests}
use Rattle.std.proofs.lemmas.List.{length-map}
use Rattle.std.proofs.lemmas.Option.{slice_get_within}
use Rattle.hp_word.specs.declared.endings.Ending.{Ending}
use Rattle.hp_word.specs.declared.endings.Ending.TheVariants.{Running, Terminated, Quit, Trapped as StoodTrapped}
use Rattle.hp_word.specs.declared.endings.Trap.{Trap}
use Rattle.hp_word.specs.declared.intrinsics.Intrinsic.{Intrinsic}
use Rattle.hp_word.specs.Intrinsics.{answer_words}
use Rattle.hp_program.specs.declared.program.Program.{Program}
use Rattle.hp_program.specs.Programs.{segments_of}
use Rattle.mpe_gate.specs.hp_tos.Calls.{flushed}
use Rattle.mpe_gate.specs.hp_tos.Seen.{Seen}
use Rattle.mpe_gate.specs.hp_tos.StackView.{seen}
use Rattle.mpe_gate.specs.hp_session.declared.registers.Regs.{Regs}
use Rattle.mpe_gate.specs.hp_session.State.{Machine, Outcome, passing}
use Rattle.mpe_gate.specs.hp_call_rows.GateRows.{performed}
use Rattle.mpe_gate.specs.hp_rows.Numbers.{exchanging, numbers}
use Rattle.mpe_gate.specs.hp_rows.Standing.{standing}
use Rattle.mpe_worlds.specs.hp_calls.declared.phases.Phase.{Phase}
use Rattle.mpe_worlds.specs.hp_calls.declared.phases.Phase.TheVariants.{Ready, Entering, Returning}
use Rattle.mpe_worlds.specs.hp_calls.Phases.{destination, finished}
use Rattle.mpe_gate.specs.hp_rows.Flushes.{flush_moved}
use Rattle.hp_program.specs.Valid.{is_head, is_local_entry}
use Rattle.hp_program.proofs.ValidLaws.{program_labels_lead, right_head}
use Rattle.mpe_worlds.proofs.hp_flat_proofs.StepKeeping.{step-continues}
use Rattle.mpe_worlds.specs.hp_flat.Step.{ended, is_running, step}
use Rattle.mpe_worlds.specs.hp_cpu.declared.cpu.Cpu.{Cpu}
use Rattle.mpe_worlds.specs.hp_cpu.Counts.{numbers_after}
use Rattle.mpe_worlds.specs.hp_cpu.Gates.{instruction_at}
use Rattle.mpe_worlds.specs.hp_cpu.Steps.{Calls, Goes, Traps, Waits}
use Rattle.mpe_worlds.specs.hp_cpu.Stood.{needed, registers, stood}
use Rattle.mpe_worlds.specs.hp_cpu.Suits.{IsTransferOf, Suits}
use Rattle.mpe_gate.specs.declared.gate.Served.{Served}
use Rattle.mpe_gate.specs.declared.gate.Served.TheVariants.{Went, Ended, Trapped}
use Rattle.mpe_gate.specs.Seated.{seated}
use Rattle.mpe_gate.specs.Serves.{CameTo, serve_moved}
use Rattle.mpe_overlay.specs.mpe_regions.Area.{Area, is_live, region_of}
use Rattle.mpe_overlay.specs.declared.at_hand.SegmentView.{SegmentView}
use Rattle.mpe_overlay.specs.Codes.{key_of}
use Rattle.mpe_overlay.specs.Held.{held_by, held_in}
use Rattle.mpe_overlay.specs.Holds.{words_in}
use Rattle.mpe_worlds.specs.Worlds.{Run}
use Rattle.mpe_worlds.specs.RunSteps.{answer_of, can_step, key_needed, numbers_stepped, stack_of, stepped}
use Rattle.mpe_worlds.proofs.CountLemmas.{numbers_after-reserved}
use Rattle.mpe_worlds.proofs.RunLaws.{stepping-one, stepping-stays}
use Rattle.mpe_turns.specs.declared.session.Session.{Session}
use Rattle.mpe_turns.specs.Stands.{IsSessionOf, machine_of, run_of}
use Rattle.mpe_turns.specs.Steps.{MakesOne, RunsOver, ServesCall, area_of, ending_after, is_went}

-- The segment that is needed.

is_some-map : {A B : Type 0} (f : A → B) (o : Option A) → is_some (option_map f o) ≡ is_some o
is_some-map f None = refl
is_some-map f (Some x) = refl

-- a segment is held exactly where it is loaded
pub held_live : (words : List ℕ) (a : Area) (program seg : ℕ) → seg < 256 → is_some (held_in words a program seg) ≡ is_live (key_of program seg) a
held_live words a program seg lt = rw (lt-ltb seg 256 lt) (is_some-map (words_in words) (region_of (key_of program seg) a.list))

-- the current segment of the flat machine is the one that is needed
pub current_segment : (held : ℕ → Option (List ℕ)) (phase : Phase) (regs : Regs) → (finished held phase regs).seg ≡ unwrap_or (destination phase) regs.seg
unfolding finished
current_segment held Ready regs = refl
current_segment held (Entering seg entry) regs = refl
current_segment held (Returning seg offset) regs = refl

pub segment_needed : (segments : List (List ℕ)) (s : Session) → (machine_of segments s).regs.seg ≡ needed s.cpu
segment_needed segments s = current_segment (slice_get segments) s.cpu.phase s.cpu.regs

-- a session that runs can step exactly where the view holds the segment that it needs
can_step-held : (segments : List (List ℕ)) (words : List ℕ) (a : Area) (s : Session) → s.ending ≡ Running → needed s.cpu < 256
    → can_step a (run_of segments s) ≡ is_some (held_in words a s.program (needed s.cpu))
can_step-held segments words a s runs lt =
    ap (λ (e : Ending). is_running e && is_live (key_needed (run_of segments s)) a) runs
    ∙ ap (λ (k : ℕ). is_live (key_of s.program k) a) (segment_needed segments s)
    ∙ sym (held_live words a s.program (needed s.cpu) lt)

-- A program's session.

-- a program has at most 62 segments
pub few_segments : (p : Program) → length p.segments.items ≤ 62
unfolding is_head
few_segments p =
    let head = right_head (segments_of p) p.main p.entry p.globals.items p.valid in
    let same : length (segments_of p) ≡ length p.segments.items = length-map p.segments.items (λ (w : Vec ℕ Global). w.items) in
    grind (arith, nat_tests)

-- the segment that a session needs is one of its program
pub needed_within : (p : Program) (s : Session) → IsSessionOf p s → needed s.cpu < length (segments_of p)
unfolding is_local_entry
needed_within p s is = by s.cpu.phase refl where
  entry_there : (o : Option (List ℕ)) (seg entry : ℕ) → slice_get (segments_of p) seg ≡ o → is_local_entry o entry ≡ true → seg < length (segments_of p)
  entry_there None seg entry at leads = cc
  entry_there (Some words) seg entry at leads = slice_get_within (segments_of p) seg words at

  by : (phase : Phase) → s.cpu.phase ≡ phase → unwrap_or (destination phase) s.cpu.regs.seg < length (segments_of p)
  by Ready e = is.current
  by (Entering seg entry) e = entry_there (slice_get (segments_of p) seg) seg entry refl (is.entering seg entry e)
  by (Returning seg offset) e = is.returning seg offset e

needed_small : (p : Program) (s : Session) → IsSessionOf p s → needed s.cpu < 256
needed_small p s is =
    let within = needed_within p s is in
    let few = few_segments p in
    let same : length (segments_of p) ≡ length p.segments.items = length-map p.segments.items (λ (w : Vec ℕ Global). w.items) in
    omega (arith, within, few, same)

-- while its segment is not loaded it can't step
pub waits_for : (p : Program) (words : List ℕ) (a : Area) (s : Session) → s.ending ≡ Running → IsSessionOf p s
    → is_some (held_in words a s.program (needed s.cpu)) ≡ false → can_step a (run_of (segments_of p) s) ≡ false
waits_for p words a s runs is none = can_step-held (segments_of p) words a s runs (needed_small p s is) ∙ none

-- what is kept of it is that its processor suits the program
pub suits_of : (p : Program) (s : Session) → IsSessionOf p s → Suits (segments_of p) s.cpu
suits_of p s is = record { count = is.count; current = is.current; transfer = by s.cpu.phase refl } where
  by : (phase : Phase) → s.cpu.phase ≡ phase → IsTransferOf (segments_of p) phase
  by Ready e = tt
  by (Entering seg entry) e = is.entering seg entry e
  by (Returning seg offset) e = is.returning seg offset e

pub session_of : (p : Program) (new : Session) → Suits (segments_of p) new.cpu → IsSessionOf p new
session_of p new suits = record {
  count = suits.count;
  current = suits.current;
  entering = λ seg entry e. subst (IsTransferOf (segments_of p)) e suits.transfer;
  returning = λ seg offset e. subst (IsTransferOf (segments_of p)) e suits.transfer;
}

-- The numbers.

-- those of an instruction, as the world counts them
numbers_seen : (segments : List (List ℕ)) (cpu : Cpu) (m : Machine) (answer : Result (Unit {0}) Trap) (next : Regs) → m ≡ stood segments cpu m
    → numbers_after (instruction_at segments m.regs) m.regs (stack_of m (numbers (seen cpu.stack))) answer next
    ≡ numbers_after (instruction_at segments (registers segments cpu)) (registers segments cpu) (seen cpu.stack) answer next
numbers_seen segments cpu m answer next is =
    ap (λ (n : Machine). numbers_after (instruction_at segments n.regs) n.regs (stack_of n (numbers (seen cpu.stack))) answer next) is
    ∙ numbers_after-reserved (instruction_at segments (registers segments cpu)) (registers segments cpu) answer next 0 0 (seen cpu.stack)

-- A step.

-- the next session of the world, from what the step came to and how the numbers moved
stepped_to : (segments : List (List ℕ)) (old new : Session) → step segments (machine_of segments old) ≡ machine_of segments new
    → numbers_stepped segments (machine_of segments old) (numbers (seen old.cpu.stack)) ≡ numbers (seen new.cpu.stack)
    → new.program ≡ old.program → new.steps ≡ old.steps + 1
    → stepped segments (run_of segments old) ≡ run_of segments new
stepped_to segments old new machine moved program steps = cc

-- the step of a processor that went
pub went : (segments : List (List ℕ)) (held : ℕ → Option (List ℕ)) (old : Session) (cpu : Cpu) → old.ending ≡ Running → Goes segments held old.cpu cpu
    → stepped segments (run_of segments old) ≡ run_of segments (record old { cpu = cpu; steps = old.steps + 1 })
unfolding step numbers_stepped
went segments held old cpu runs goes = stepped_to segments old (record old { cpu = cpu; steps = old.steps + 1 })
    (rw (goes.goes m) refl)
    (rw (goes.no_gate m, goes.goes m) (numbers_seen segments old.cpu m (Ok tt) (registers segments cpu) refl ∙ sym goes.counts))
    refl refl
  where
    m : Machine
    m = machine_of segments old

-- one that trapped
pub trapped : (segments : List (List ℕ)) (held : ℕ → Option (List ℕ)) (old : Session) (t : Trap) (cpu : Cpu) → old.ending ≡ Running → Traps segments held old.cpu t cpu
    → stepped segments (run_of segments old) ≡ run_of segments (record old { cpu = cpu; ending = StoodTrapped t; steps = old.steps + 1 })
unfolding step numbers_stepped
trapped segments held old t cpu runs traps = stepped_to segments old (record old { cpu = cpu; ending = StoodTrapped t; steps = old.steps + 1 })
    (rw (traps.traps m) (ap (λ (n : Machine). record n { ending = StoodTrapped t }) (sym (traps.same m))))
    (rw (traps.no_gate m, traps.traps m) (numbers_seen segments old.cpu m (Err t) m.regs refl
    ∙ ap (λ (r : Regs). numbers_after (instruction_at segments (registers segments old.cpu)) (registers segments old.cpu) (seen old.cpu.stack) (Err t) r)
    (ap (λ (n : Machine). n.regs) (sym (traps.same m))) ∙ sym traps.counts))
    refl refl
  where
    m : Machine
    m = machine_of segments old

-- a call that was handed on leaves the session seated at its terminal
seated_is : (segments : List (List ℕ)) (old : Session) (mid : Cpu) → old.ending ≡ Running → mid.phase ≡ Ready
    → stood segments mid (machine_of segments old) ≡ machine_of segments old
    → seated mid.regs (seen mid.stack) old.terminal ≡ machine_of segments old
unfolding finished
seated_is segments old mid runs ready same =
    let regs : registers segments mid ≡ mid.regs = ap (λ (p : Phase). finished (slice_get segments) p mid.regs) ready in
    ap (λ (r : Regs). standing r (seen mid.stack) (record (machine_of segments old) { ending = Running })) (sym regs)
    ∙ ap (λ (e : Ending). stood segments mid (record (machine_of segments old) { ending = e })) (sym runs)
    ∙ same

-- where a session stands that was served, its transfer done
served_at : (segments : List (List ℕ)) (new : Session) → new.cpu.phase ≡ Ready
    → record (seated new.cpu.regs (seen new.cpu.stack) new.terminal) { ending = new.ending } ≡ machine_of segments new
unfolding finished
served_at segments new ready =
    let regs : registers segments new.cpu ≡ new.cpu.regs = ap (λ (p : Phase). finished (slice_get segments) p new.cpu.regs) ready in
    ap (λ (r : Regs). record (machine_of segments new) { regs = r }) (sym regs)

-- what a call came to is where the session stands then
came_to : (o : Outcome) (old seat new : Machine) (answer : Served) → CameTo o seat answer new → seat ≡ old → new.ending ≡ Running
    → ended old o ≡ record new { ending = ending_after answer }
came_to o old seat new Went is same runs = rw is (ap (λ (e : Ending). record new { ending = e }) runs)
came_to o old seat new (Ended ending) is same runs = rw is.1 refl
came_to o old seat new (Trapped t) is same runs = rw is.0 (ap (λ (m : Machine). record m { ending = StoodTrapped t }) (sym (is.1 ∙ same)))

-- and its words were taken from memory, after the flush
served_moved : (left : ℕ) (o : Outcome) (seat new : Machine) (answer : Served) (before after : Seen) → CameTo o seat answer new
    → numbers after ≡ numbers (flushed before) → flush_moved left (answer_of o) before ≡ serve_moved left answer after
served_moved left o seat new Went before after is flush = rw is (ap (exchanging 0 left) (sym flush))
served_moved left o seat new (Ended ending) before after is flush = rw is.1 (ap (exchanging 0 left) (sym flush))
served_moved left o seat new (Trapped t) before after is flush = rw is.0 (sym flush)

-- the call of an intrinsic, which was served
pub served : (segments : List (List ℕ)) (held : ℕ → Option (List ℕ)) (old : Session) (i : Intrinsic) (mid : Cpu) (on : Bool) (new : Session)
    → old.ending ≡ Running → Calls segments held old.cpu i mid → ServesCall i (record old { cpu = mid }) on new
    → stepped segments (run_of segments old) ≡ run_of segments new
unfolding step numbers_stepped
served segments held old i mid on new runs calls did = stepped_to segments old new
    (rw (calls.calls m ∙ ap (λ (n : Machine). passing (performed i n)) (sym seat))
    (came_to _ m _ _ did.answer did.serves.does seat refl ∙ ap (λ (e : Ending). record there { ending = e }) (sym ending) ∙ served_at segments new ready))
    (rw (calls.gate m, calls.calls m ∙ ap (λ (n : Machine). passing (performed i n)) (sym seat))
    (served_moved (answer_words i) _ _ _ did.answer (stack_of m (numbers (seen old.cpu.stack))) (seen mid.stack) did.serves.does calls.counts ∙ sym did.serves.moves))
    (ap (λ (s : Session). s.program) did.left)
    (ap (λ (s : Session). s.steps) did.left)
  where
    m : Machine
    m = machine_of segments old

    there : Machine
    there = seated new.cpu.regs (seen new.cpu.stack) new.terminal

    seat : seated mid.regs (seen mid.stack) old.terminal ≡ machine_of segments old
    seat = seated_is segments old mid runs calls.ready (calls.same m)

    ready : new.cpu.phase ≡ Ready
    ready = ap (λ (s : Session). s.cpu.phase) did.left ∙ calls.ready

    ending : new.ending ≡ ending_after did.answer
    ending = ap (λ (s : Session). s.ending) did.left

-- it stands in the segment in which it was
pub serve_suits : (p : Program) (held : ℕ → Option (List ℕ)) (old : Session) (i : Intrinsic) (mid : Cpu) (on : Bool) (new : Session)
    → old.ending ≡ Running → Calls (segments_of p) held old.cpu i mid → Suits (segments_of p) mid → ServesCall i (record old { cpu = mid }) on new
    → Suits (segments_of p) new.cpu
serve_suits p held old i mid on new runs calls suits did =
    let m = machine_of (segments_of p) old in
    let seat = seated_is (segments_of p) old mid runs calls.ready (calls.same m) in
    let ready : new.cpu.phase ≡ Ready = ap (λ (s : Session). s.cpu.phase) did.left ∙ calls.ready in
    let here : m.regs.seg < length (segments_of p) = subst (λ (k : ℕ). k < length (segments_of p)) (ap (λ (n : Machine). n.regs.seg) seat) suits.current in
    let there : (step (segments_of p) m).regs.seg < length (segments_of p) = (step-continues (segments_of p) (program_labels_lead p) m).within here in
    record {
      count = suits.count ∙ ap (λ (s : Session). s.cpu.segments) (sym did.left);
      current = subst (λ (k : ℕ). k < length (segments_of p))
          (ap (λ (r : Run). r.machine.regs.seg) (served (segments_of p) held old i mid on new runs calls did) ∙ segment_needed (segments_of p) new
          ∙ ap (λ (phase : Phase). unwrap_or (destination phase) new.cpu.regs.seg) ready) there;
      transfer = subst (IsTransferOf (segments_of p)) (sym ready) tt;
    }

-- What is said of one step, by what the processor answered.

-- where the session can step
makes_stepped : (p : Program) (a : Area) (old : Session) (on : Bool) (new : Session) → can_step a (run_of (segments_of p) old) ≡ true
    → stepped (segments_of p) (run_of (segments_of p) old) ≡ run_of (segments_of p) new → on ≡ is_running new.ending → IsSessionOf p new
    → MakesOne p a old on new
makes_stepped p a old on new can is told session = record {
  steps = sym is ∙ sym (stepping-one (segments_of p) a (run_of (segments_of p) old) can);
  told = rw can told;
  session = session;
}

-- where its segment is not loaded
makes_none : (p : Program) (a : Area) (old new : Session) → can_step a (run_of (segments_of p) old) ≡ false → new ≡ old → IsSessionOf p old → MakesOne p a old false new
makes_none p a old new can same session = record {
  steps = ap (run_of (segments_of p)) same ∙ sym (stepping-stays (segments_of p) a 1 (run_of (segments_of p) old) can);
  told = rw can refl;
  session = subst (IsSessionOf p) (sym same) session;
}

is_some-true : {A : Type 0} (o : Option A) → IsSome o → is_some o ≡ true
is_some-true None some = cc
is_some-true (Some x) some = refl

went_runs : (answer : Served) → ((e : Ending) → answer ≡ Ended e → e ≡ Running → ⊥) → is_went answer ≡ is_running (ending_after answer)
went_runs Went ends = refl
went_runs (Ended Running) ends = absurd (ends Running refl refl)
went_runs (Ended Terminated) ends = refl
went_runs (Ended (Quit n)) ends = refl
went_runs (Ended (StoodTrapped t)) ends = refl
went_runs (Trapped t) ends = refl

-- an intrinsic that ended the session has not left it running
ends_so : (o : Outcome) (seat new : Machine) (answer : Served) → CameTo o seat answer new → (e : Ending) → answer ≡ Ended e → e ≡ Running → ⊥
ends_so o seat new Went is e ended runs = cc
ends_so o seat new (Ended ending) is e ended runs = is.0 cc
ends_so o seat new (Trapped t) is e ended runs = cc

module _ (p : Program) (code : SegmentView) (old : Session) (over : RunsOver p code old) (runs : old.ending ≡ Running) where
  can_is : can_step (area_of code) (run_of (segments_of p) old) ≡ is_some (held_by code.view (needed old.cpu))
  can_is = can_step-held (segments_of p) code.view.area.now.items (area_of code) old runs (needed_small p old over.session)
      ∙ ap (λ (k : ℕ). is_some (held_in code.view.area.now.items (area_of code) k (needed old.cpu))) over.same_program

  pub one_went : (cpu : Cpu) → Goes (segments_of p) (held_by code.view) old.cpu cpu → Suits (segments_of p) cpu
      → MakesOne p (area_of code) old true (record old { cpu = cpu; steps = old.steps + 1 })
  one_went cpu goes suits = makes_stepped p (area_of code) old true _ (can_is ∙ is_some-true _ goes.present) (went (segments_of p) (held_by code.view) old cpu runs goes)
      (ap is_running (sym runs)) (session_of p _ suits)

  pub one_waits : (seg : ℕ) (cpu : Cpu) → Waits (held_by code.view) old.cpu seg cpu → MakesOne p (area_of code) old false (record old { cpu = cpu })
  one_waits seg cpu waits = makes_none p (area_of code) old _
      (can_is ∙ ap (λ (k : ℕ). is_some (held_by code.view k)) (sym waits.needs) ∙ ap is_some waits.absent)
      (ap (λ (c : Cpu). record old { cpu = c }) waits.same) over.session

  pub one_trapped : (t : Trap) (cpu : Cpu) → Traps (segments_of p) (held_by code.view) old.cpu t cpu → Suits (segments_of p) cpu
      → MakesOne p (area_of code) old false (record old { cpu = cpu; ending = StoodTrapped t; steps = old.steps + 1 })
  one_trapped t cpu traps suits = makes_stepped p (area_of code) old false _ (can_is ∙ is_some-true _ traps.present) (trapped (segments_of p) (held_by code.view) old t cpu runs traps)
      refl (session_of p _ suits)

  pub one_served : (i : Intrinsic) (cpu : Cpu) (on : Bool) (new : Session) → Calls (segments_of p) (held_by code.view) old.cpu i cpu → Suits (segments_of p) cpu
      → ServesCall i (record old { cpu = cpu }) on new → MakesOne p (area_of code) old on new
  one_served i cpu on new calls suits did = makes_stepped p (area_of code) old on new (can_is ∙ is_some-true _ calls.present)
      (served (segments_of p) (held_by code.view) old i cpu on new runs calls did)
      (did.told ∙ went_runs did.answer (ends_so _ _ _ did.answer did.serves.does) ∙ ap (λ (s : Session). is_running s.ending) (sym did.left))
      (session_of p new (serve_suits p (held_by code.view) old i cpu on new runs calls suits did))
