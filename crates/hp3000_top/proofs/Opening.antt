-- What the monitor answers, of the programs that were made.
use Rattle.std.proofs.Common.{ℕ, ◌≡◌, ◌≢◌, ◌≤◌, List, length, Vec, Global, Option, None, Some, Result, Ok, Err, refl, ap, sym, subst, ◌∙◌, arith}
use Rattle.std.specs.Prelude.{slice_get, IfOk, IfSome}
use Rattle.std.proofs.lemmas.List.{length-map}
use Rattle.hp_program.specs.declared.program.Program.{Program}
use Rattle.job_gen.specs.job_text.declared.job.Job.{Job}
use Rattle.job_gen.specs.job_text.Fits.{SeatFits, JobFits}
use Rattle.job_gen.specs.job_text.Views.{text_value, seat_value, job_value}
use Rattle.job_runs.specs.mpe_overlay.Codes.{codes_of}
use Rattle.job_gen.specs.mpe_session.declared.seat.Seat.{Seat}
use Rattle.job_runs.specs.mpe_worlds.Opening.{opening}
use Rattle.job_runs.specs.mpe_worlds.Dispatch.{after}
use Rattle.job_runs.specs.mpe_turns.declared.fault.OpenFault.{OpenFault}
use Rattle.job_runs.specs.mpe_turns.declared.fault.OpenFault.TheVariants.{NoMemory}
use Rattle.job_runs.specs.mpe_turns.declared.monitor.Monitor.{Monitor}
use Rattle.job_runs.specs.mpe_turns.Monitors.{codes_in, world_of}
use Rattle.job_runs.specs.mpe_turns.Opening.{AreSeats, refusal}
use Rattle.hp3000_top.specs.Programs.{AreMade}
use Rattle.hp3000_top.specs.declared.answer.Answer.{Answer}
use Rattle.hp3000_top.specs.declared.answer.Answer.TheVariants.{Report, Crowded, File, Listing, Refusal}
use Rattle.hp3000_top.specs.declared.verbs.Verb.{Verb}
use Rattle.hp3000_top.specs.Steps.{AreCopies, Answers, IsOfStack, IsUnopened}
use Rattle.hp3000_top.proofs.Copies.{same_codes, same_opening, same_refusal}
use Rattle.hp3000_top.proofs.Loops.{each_slice, copies_count}
use Rattle.hp3000_top.proofs.Headline.{made_count}

-- as many programs as texts
pub count_so : (job : Job) (made copies : List Program) → AreMade (job_value job).programs made → AreCopies made copies → length copies ≡ length job.programs.items
count_so job made copies a c = copies_count c ∙ made_count a ∙ length-map job.programs.items text_value

pub few_so : (job : Job) (made copies : List Program) → JobFits 1048576 (job_value job) → AreMade (job_value job).programs made → AreCopies made copies → length copies ≤ 16
few_so job made copies f a c = let m = copies_count c in let n = made_count a in let k = f.programs in omega (arith, m, n, k)

pub seats_so : (job : Job) (made copies : List Program) → JobFits 1048576 (job_value job) → AreMade (job_value job).programs made → AreCopies made copies
    → AreSeats copies job.seats.items
seats_so job made copies f a c =
    let m = copies_count c in
    let n = made_count a in
    let at = λ (k : ℕ) (s : Seat) (e : slice_get job.seats.items k ≡ Some s).
    each_slice (SeatFits (length (job_value job).programs)) seat_value job.seats.items k s f.each_session e in
    record {
      few = let k = f.sessions in let l = length-map job.seats.items seat_value in omega (arith, k, l);
      program = λ k s e. let l = (at k s e).program in omega (arith, l, m, n);
      stack = λ k s e. (at k s e).stack;
      extra = λ k s e. (at k s e).extra;
    }

-- a monitor that opened was not refused
pub opened_so : (m : Monitor) (o : Option OpenFault) → IfSome o (λ e. Ok m ≡ Err e) → o ≡ None
opened_so m None h = refl
opened_so m (Some e) h = cc

pub none_of : (job : Job) (made copies : List Program) → AreCopies made copies → refusal job.memory job.seats.items copies ≡ None → refusal job.memory job.seats.items made ≡ None
none_of job made copies c e = sym (same_refusal job.memory job.seats.items job.seats.items c refl) ∙ e

-- one that did not was refused for this
abbrev pub failed : OpenFault → Result Monitor OpenFault
failed e = Err e

pub refused_of : (job : Job) (made copies : List Program) (e : OpenFault) → AreCopies made copies → e ≢ NoMemory
    → IfSome (refusal job.memory job.seats.items copies) (λ f. failed e ≡ Err f) → (refusal job.memory job.seats.items copies ≡ None → e ≡ NoMemory)
    → refusal job.memory job.seats.items made ≡ Some e
refused_of job made copies e c n h k = sym (same_refusal job.memory job.seats.items job.seats.items c refl) ∙ by (refusal job.memory job.seats.items copies) refl h
  where
    by : (o : Option OpenFault) → refusal job.memory job.seats.items copies ≡ o → IfSome o (λ f. failed e ≡ Err f) → o ≡ Some e
    by None d h = absurd (n (k d))
    by (Some f) d h = let same : e ≡ f = cc in ap Some (sym same)

-- what is told of sessions that don't open answers the job
pub unopened_so : {E : Type 0} (v : Verb) (bytes : ℕ) (job : Job) (made : List Program) (f : OpenFault) (r : Result Answer E)
    → (f ≢ NoMemory → refusal job.memory job.seats.items made ≡ Some f) → IfOk r (λ a. IsUnopened f made a)
    → IfOk r (λ a. Answers v bytes (job_value job) job.seats.items made a)
unopened_so v bytes job made f (Err e) told h = tt
unopened_so v bytes job made f (Ok (Refusal line)) told h = (f, told (λ e. subst IsOfStack e h.1), h.0, h.1)
unopened_so v bytes job made f (Ok (Crowded m line)) told h =
    (h.0, (h.1.0, h.1.1, told (λ e. let d = sym h.1.2 ∙ e in cc) ∙ ap Some h.1.2, h.1.3))
unopened_so v bytes job made f (Ok (Report m monitor text)) told h = absurd h
unopened_so v bytes job made f (Ok (File m text)) told h = absurd h
unopened_so v bytes job made f (Ok (Listing text)) told h = absurd h

-- the world of the copies is that of the programs
pub world_so : (job : Job) (made : List Program) (copies : Vec Program Global) (m n : Monitor) → AreCopies made copies.items → m.overlay.programs ≡ copies
    → world_of m ≡ opening job.memory job.seats.items copies.items → world_of n ≡ after (codes_in m) job.quantum job.turns (world_of m)
    → world_of n ≡ after (codes_of made) job.quantum job.turns (opening job.memory job.seats.items made)
world_so job made copies m n c ps o t =
    let codes : codes_in m ≡ codes_of made = ap (λ (v : Vec Program Global). codes_of v.items) ps ∙ same_codes c in
    t ∙ ap (λ cs. after cs job.quantum job.turns (world_of m)) codes ∙ ap (after (codes_of made) job.quantum job.turns) (o ∙ same_opening job.memory job.seats.items c)
