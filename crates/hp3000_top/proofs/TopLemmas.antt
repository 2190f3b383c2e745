-- The clauses of the top call, from what is answered of the bytes that were read, and how that was taken.
use Rattle.std.proofs.Common.{◌≡◌, ◌≤◌, ℕ, Bool, true, false, List, [], ◌∷◌, length, Option, None, Some, Result, Ok, Err, refl, sym, subst, inl, inr, ◌∙◌}
use Rattle.std.specs.Prelude.{OnOk, OnErr, ◌⊎◌}
use Rattle.std.specs.Result.{is_err}
use Rattle.std.specs.Io.KnownBytes.{Appends}
use Rattle.hp_outside.specs.Whole.{ReadsToEnd, AppendsPrefix}
use Rattle.hp_outside.specs.Faults.{Rose, HasCause}
use Rattle.hp_outside.specs.declared.streams.Failed.{Failed}
use Rattle.hp_program.specs.declared.program.Program.{Program}
use Rattle.job_gen.specs.job_text.Jobs.{JobValue}
use Rattle.job_runs.specs.mpe_worlds.Worlds.{World}
use Rattle.job_runs.specs.mpe_turns.Monitors.{world_of}
use Rattle.hp3000_top.specs.declared.answer.Answer.{Answer}
use Rattle.hp3000_top.specs.declared.answer.Answer.TheVariants.{Report, Crowded, File, Listing, Refusal}
use Rattle.hp3000_top.specs.declared.exit.Exit.{Exit}
use Rattle.hp3000_top.specs.declared.exit.Exit.TheVariants as e
use Rattle.hp3000_top.specs.declared.ran.Ran.{Ran}
use Rattle.hp3000_top.specs.declared.verbs.Verb.{Verb}
use Rattle.hp3000_top.specs.declared.verbs.Verb.TheVariants as verb
use Rattle.hp3000_top.specs.Causes.{RunsJobs, account_of, Runs, CauseOf, SureCauseOf, ComesTo}
use Rattle.hp3000_top.specs.Causes as c
use Rattle.hp3000_top.specs.Answers.{Over, Certain, IsWhole, Refuses, BreaksOff, HasRun, DeliversJob, DeliversOf, Delivers, ReportsAsAlone, CarriesPrepared, AreAsAlone, IsSurelyDoneOf, IsSurelyDone, IsDone, IsSurelyRefused, IsRefusedBy, IsCrowded, CarriesCrowded, MadeBy, MadeAt, RanAt}
use Rattle.hp3000_top.specs.Steps.{IsInput, IsAnswered, IsTaken, text_of, exit_of, made_by, ran_by}
use Rattle.hp3000_top.specs.Steps as s
use Rattle.hp3000_top.specs.Decided.{IsNamedOf, IsLeftToWords, CrowdsOf, IsDecided}
use Rattle.hp3000_top.proofs.Decided.{refused_by_words}
use Rattle.hp3000_top.proofs.Unique.{crowded_cause, jobs_refuse, jobs_are_not_refused, prepared_not_sure, listed_no_cause, sure_same, done_no_cause}
use Rattle.std.specs.List.{list_all}
use Rattle.hp3000_top.proofs.CarriedSessions.{TextsCarry}
use Rattle.hp3000_top.specs.Carried.{is_byte, CarryTheirs}
use Rattle.hp3000_top.proofs.Headline.{carry_theirs, each_is_as_alone}

-- ---- what was written

pub taken_whole : (a : Answer) (r : Result (Unit {0}) Failed) (b : Bool) (old new : Option (List ℕ)) (bytes : List ℕ) (faults : Type 0) (m0 m1 : List Program) (r0 r1 : Option Ran) (x : Exit)
    → bytes ≡ text_of a → OnOk r (Appends old new bytes) → b ≡ is_err r → b ≡ false → x ≡ exit_of a → m1 ≡ made_by a m0 → r1 ≡ ran_by a r0
    → IsTaken a old new faults m0 m1 r0 r1 x
taken_whole a (Ok k) b old new bytes faults m0 m1 r0 r1 x t h i f q m r = s.IsTaken.whole q (subst (λ (t : List ℕ). Appends old new t) t h) m r
taken_whole a (Err k) b old new bytes faults m0 m1 r0 r1 x t h i f q m r = cc

pub taken_cut : (a : Answer) (r : Result (Unit {0}) Failed) (b : Bool) (old new : Option (List ℕ)) (bytes : List ℕ) (before now : ℕ) (m0 m1 : List Program) (r0 r1 : Option Ran) (x : Exit)
    → bytes ≡ text_of a → OnErr r (AppendsPrefix old new bytes) → HasCause before now r → b ≡ is_err r → b ≡ true → x ≡ e.WriteFault → m1 ≡ m0 → r1 ≡ r0
    → IsTaken a old new (Rose before now) m0 m1 r0 r1 x
taken_cut a (Err k) b old new bytes before now m0 m1 r0 r1 x t h j i f q m r = s.IsTaken.cut q (subst (λ (t : List ℕ). AppendsPrefix old new t) t h) j.failed m r
taken_cut a (Ok k) b old new bytes before now m0 m1 r0 r1 x t h j i f q m r = cc

-- ---- what a verb is about

-- what holds of the bytes that came holds of those that the verb is about
over_so : (P : List ℕ → Type 0) (v : Verb) (left rest : Option (List ℕ)) (bytes : List ℕ) → IsInput 1048576 v left rest bytes → P bytes → Over v left P
over_so P verb.Run left rest bytes i p = (bytes, i.all, p)
over_so P verb.Prep left rest bytes i p = (bytes, i.all, p)
over_so P verb.List left rest bytes i p = (bytes, i.all, p)
over_so P (verb.Gen n) left rest bytes i p = subst P i.0 p

-- what is certain of them holds of those that came
certain_so : (P : List ℕ → Type 0) (v : Verb) (left rest : Option (List ℕ)) (bytes : List ℕ) → IsInput 1048576 v left rest bytes → Certain v left P → P bytes
certain_so P verb.Run (Some all) rest bytes i c = subst P (sym i.all) c.1
certain_so P verb.Prep (Some all) rest bytes i c = subst P (sym i.all) c.1
certain_so P verb.List (Some all) rest bytes i c = subst P (sym i.all) c.1
certain_so P (verb.Gen n) left rest bytes i c = subst P (sym i.0) c
certain_so P verb.Run None rest bytes i c = absurd c
certain_so P verb.Prep None rest bytes i c = absurd c
certain_so P verb.List None rest bytes i c = absurd c

-- they are few
pub few_so : (v : Verb) (left rest : Option (List ℕ)) (bytes : List ℕ) → IsInput 1048576 v left rest bytes → length bytes ≤ 1048576
few_so verb.Run left rest bytes i = i.within
few_so verb.Prep left rest bytes i = i.within
few_so verb.List left rest bytes i = i.within
few_so (verb.Gen n) left rest bytes i = i.1

-- and an input was read to its end
whole_of : (left rest : Option (List ℕ)) (bytes : List ℕ) → ReadsToEnd 1048576 left rest bytes → IsWhole 1048576 (Some verb.Run) left rest
whole_of None rest bytes r = (tt, r.at_end)
whole_of (Some all) rest bytes r = (subst (λ (bs : List ℕ). length bs ≤ 1048576) r.all r.within, r.at_end)

pub whole_so : (v : Verb) (left rest : Option (List ℕ)) (bytes : List ℕ) → IsInput 1048576 v left rest bytes → IsWhole 1048576 (Some v) left rest
whole_so verb.Run left rest bytes i = whole_of left rest bytes i
whole_so verb.Prep left rest bytes i = whole_of left rest bytes i
whole_so verb.List left rest bytes i = whole_of left rest bytes i
whole_so (verb.Gen n) left rest bytes i = tt

-- ---- an answer's text

-- an answer has this text
comes_to : (v : Verb) (bytes : List ℕ) (a : Answer) → IsAnswered bytes v a → ComesTo bytes v (text_of a)
comes_to v bytes a (s.IsAnswered.report {made = made} {monitor = m} job runs k t) = subst (ComesTo bytes v) (sym t) (c.ComesTo.account job made.items (world_of m) runs k)
comes_to v bytes a (s.IsAnswered.crowded {made = made} {line = line} need given runs t d) =
    c.ComesTo.line (jobs_refuse v bytes line.items runs (crowded_cause bytes line.items made.items need given t d))
comes_to v bytes a (s.IsAnswered.file job p k m f) = c.ComesTo.file job p k f
comes_to v bytes a (s.IsAnswered.listing p k t) = subst (ComesTo bytes verb.List) (sym t) (c.ComesTo.listing p k)
comes_to v bytes a (s.IsAnswered.refuses k d) = c.ComesTo.line k

-- what an answer ends with
never_cut : (a : Answer) → exit_of a ≡ e.WriteFault → ⊥
never_cut (Report made monitor text) h = cc
never_cut (Crowded made line) h = cc
never_cut (File made text) h = cc
never_cut (Listing text) h = cc
never_cut (Refusal line) h = cc

-- ---- each clause

pub fault_so : (a : Answer) (old new : Option (List ℕ)) (faults : Type 0) (m0 m1 : List Program) (r0 r1 : Option Ran) (x : Exit)
    → IsTaken a old new faults m0 m1 r0 r1 x → x ≡ e.WriteFault → faults
fault_so a old new faults m0 m1 r0 r1 x (s.IsTaken.cut q t f m d) w = f
fault_so a old new faults m0 m1 r0 r1 x (s.IsTaken.whole q t m d) w = absurd (never_cut a (sym q ∙ w))

pub broken_so : (v : Verb) (left rest : Option (List ℕ)) (bytes : List ℕ) (a : Answer) (old new : Option (List ℕ)) (faults : Type 0) (m0 m1 : List Program) (r0 r1 : Option Ran) (x : Exit)
    → IsInput 1048576 v left rest bytes → IsAnswered bytes v a → IsTaken a old new faults m0 m1 r0 r1 x → x ≡ e.WriteFault → BreaksOff (Some v) left old new
broken_so v left rest bytes a old new faults m0 m1 r0 r1 x r k (s.IsTaken.cut q t f m d) w =
    over_so (λ bs. (text : List ℕ) × ComesTo bs v text × AppendsPrefix old new text) v left rest bytes r (text_of a, comes_to v bytes a k, t)
broken_so v left rest bytes a old new faults m0 m1 r0 r1 x r k (s.IsTaken.whole q t m d) w = absurd (never_cut a (sym q ∙ w))

-- the line of an answer that ends refused
line_so : (v : Verb) (bytes : List ℕ) (a : Answer) → IsAnswered bytes v a → exit_of a ≡ e.Refused → CauseOf v bytes (text_of a)
line_so v bytes a (s.IsAnswered.report job runs k t) h = cc
line_so v bytes a (s.IsAnswered.crowded {made = made} {line = line} need given runs t d) h =
    jobs_refuse v bytes line.items runs (crowded_cause bytes line.items made.items need given t d)
line_so v bytes a (s.IsAnswered.file job p k m f) h = cc
line_so v bytes a (s.IsAnswered.listing p k t) h = cc
line_so v bytes a (s.IsAnswered.refuses k d) h = k

pub refused_so : (v : Verb) (left rest : Option (List ℕ)) (bytes : List ℕ) (a : Answer) (old new : Option (List ℕ)) (faults : Type 0) (m0 m1 : List Program) (r0 r1 : Option Ran) (x : Exit)
    → IsInput 1048576 v left rest bytes → IsAnswered bytes v a → IsTaken a old new faults m0 m1 r0 r1 x → x ≡ e.Refused → Refuses (Some v) left old new
refused_so v left rest bytes a old new faults m0 m1 r0 r1 x r k (s.IsTaken.whole q t m d) w =
    over_so (λ bs. (line : List ℕ) × CauseOf v bs line × Appends old new line) v left rest bytes r (text_of a, line_so v bytes a k (sym q ∙ w), t)
refused_so v left rest bytes a old new faults m0 m1 r0 r1 x r k (s.IsTaken.cut q t f m d) w = let n = sym q ∙ w in cc

-- each verb that runs a job delivers what is told of it
jobs_deliver : (v : Verb) (bytes : List ℕ) (made : List Program) (ran : Option Ran) (old new : Option (List ℕ)) → RunsJobs v → DeliversJob v bytes made ran old new
    → DeliversOf v bytes made ran old new
jobs_deliver verb.Run bytes made ran old new runs d = d
jobs_deliver (verb.Gen n) bytes made ran old new runs d = d
jobs_deliver verb.Prep bytes made ran old new runs d = absurd runs
jobs_deliver verb.List bytes made ran old new runs d = absurd runs

delivered : (v : Verb) (bytes : List ℕ) (a : Answer) (old new : Option (List ℕ)) (m0 m1 : List Program) (r0 r1 : Option Ran)
    → IsAnswered bytes v a → exit_of a ≡ e.Done → Appends old new (text_of a) → m1 ≡ made_by a m0 → r1 ≡ ran_by a r0 → DeliversOf v bytes m1 r1 old new
delivered v bytes a old new m0 m1 r0 r1 (s.IsAnswered.report {made = made} {monitor = monitor} {text = text} job runs k t) h p m d =
    jobs_deliver v bytes m1 r1 old new runs (record {
      job = job;
      world = world_of monitor;
      runs = subst (λ (ms : List Program). Runs bytes job ms (world_of monitor)) (sym m) k;
      has_run = subst (λ (o : Option Ran). HasRun o (world_of monitor)) (sym d) refl;
      appends = subst (λ (t : List ℕ). Appends old new t) t p;
    })
delivered v bytes a old new m0 m1 r0 r1 (s.IsAnswered.crowded need given runs t c) h p m d = cc
delivered v bytes a old new m0 m1 r0 r1 (s.IsAnswered.file {made = made} {text = text} job q k n f) h p m d = record {
  job = job;
  program = q;
  is = k;
  made_is = m ∙ n;
  file = text.items;
  is_file = f;
  appends = p;
}
delivered v bytes a old new m0 m1 r0 r1 (s.IsAnswered.listing {text = text} q k t) h p m d = record {
  program = q;
  is_file = k;
  appends = subst (λ (t : List ℕ). Appends old new t) t p;
}
delivered v bytes a old new m0 m1 r0 r1 (s.IsAnswered.refuses k c) h p m d = cc

pub done_so : (v : Verb) (left rest : Option (List ℕ)) (bytes : List ℕ) (a : Answer) (old new : Option (List ℕ)) (faults : Type 0) (m0 m1 : List Program) (r0 r1 : Option Ran) (x : Exit)
    → IsInput 1048576 v left rest bytes → IsAnswered bytes v a → IsTaken a old new faults m0 m1 r0 r1 x → x ≡ e.Done → Delivers (Some v) left m1 r1 old new
done_so v left rest bytes a old new faults m0 m1 r0 r1 x r k (s.IsTaken.whole q t m d) w =
    over_so (λ bs. DeliversOf v bs m1 r1 old new) v left rest bytes r (delivered v bytes a old new m0 m1 r0 r1 k (sym q ∙ w) t m d)
done_so v left rest bytes a old new faults m0 m1 r0 r1 x r k (s.IsTaken.cut q t f m d) w = let n = sym q ∙ w in cc

alone_of : TextsCarry → (v : Verb) (bytes : List ℕ) → list_all is_byte bytes ≡ true → (job : JobValue) (made : List Program) (w : World) (text : List ℕ) (old new : Option (List ℕ)) → Runs bytes job made w
    → text ≡ account_of v bytes job w → Appends old new text → ReportsAsAlone v bytes made old new
alone_of law v bytes small job made w text old new k t p = record {
  job = job;
  world = w;
  runs = k;
  carry = carry_theirs law job.programs made k.is.are_made;
  each = each_is_as_alone law bytes small job made w k;
  appends = subst (λ (t : List ℕ). Appends old new t) t p;
}

reported_alone : TextsCarry → (v : Verb) (bytes : List ℕ) → list_all is_byte bytes ≡ true → (job : JobValue) (made m1 : List Program) (w : World) (text : List ℕ) (old new : Option (List ℕ))
    → Runs bytes job made w → text ≡ account_of v bytes job w → Appends old new text → m1 ≡ made → ReportsAsAlone v bytes m1 old new
reported_alone law v bytes small job made m1 w text old new k t p m =
    subst (λ (ms : List Program). ReportsAsAlone v bytes ms old new) (sym m) (alone_of law v bytes small job made w text old new k t p)

alone : TextsCarry → (v : Verb) (bytes : List ℕ) → list_all is_byte bytes ≡ true → (a : Answer) (old new : Option (List ℕ)) (m0 m1 : List Program) → RunsJobs v → IsAnswered bytes v a → exit_of a ≡ e.Done
    → Appends old new (text_of a) → m1 ≡ made_by a m0 → ReportsAsAlone v bytes m1 old new
alone law v bytes small a old new m0 m1 is (s.IsAnswered.report {made = made} {monitor = monitor} {text = text} job runs k t) h p m =
    reported_alone law v bytes small job made.items m1 (world_of monitor) text.items old new k t p m
alone law v bytes small a old new m0 m1 is (s.IsAnswered.crowded need given runs t c) h p m = cc
alone law v bytes small a old new m0 m1 is (s.IsAnswered.file job q k n f) h p m = absurd is
alone law v bytes small a old new m0 m1 is (s.IsAnswered.listing q k t) h p m = absurd is
alone law v bytes small a old new m0 m1 is (s.IsAnswered.refuses k c) h p m = cc

-- an answer that ends done was taken whole
taken_done : (a : Answer) (old new : Option (List ℕ)) (faults : Type 0) (m0 m1 : List Program) (r0 r1 : Option Ran) (x : Exit)
    → IsTaken a old new faults m0 m1 r0 r1 x → x ≡ e.Done → (exit_of a ≡ e.Done) × Appends old new (text_of a) × (m1 ≡ made_by a m0)
taken_done a old new faults m0 m1 r0 r1 x (s.IsTaken.whole q t m d) w = (sym q ∙ w, t, m)
taken_done a old new faults m0 m1 r0 r1 x (s.IsTaken.cut q t f m d) w = let n = sym q ∙ w in cc

run_headline : TextsCarry → (v : Verb) (left rest : Option (List ℕ)) (bytes : List ℕ) → list_all is_byte bytes ≡ true → (a : Answer) (old new : Option (List ℕ)) (faults : Type 0) (m0 m1 : List Program) (r0 r1 : Option Ran) (x : Exit)
    → RunsJobs v → IsInput 1048576 v left rest bytes → IsAnswered bytes v a → IsTaken a old new faults m0 m1 r0 r1 x → x ≡ e.Done
    → Over v left (λ bs. ReportsAsAlone v bs m1 old new)
run_headline law v left rest bytes small a old new faults m0 m1 r0 r1 x is r k u w =
    let d = taken_done a old new faults m0 m1 r0 r1 x u w in
    over_so (λ bs. ReportsAsAlone v bs m1 old new) v left rest bytes r (alone law v bytes small a old new m0 m1 is k d.0 d.1 d.2)

-- a program that is prepared carries its units
prepared_carries : TextsCarry → (v : Verb) (bytes : List ℕ) (a : Answer) (m0 m1 : List Program) → v ≡ verb.Prep → IsAnswered bytes v a
    → exit_of a ≡ e.Done → m1 ≡ made_by a m0 → CarriesPrepared bytes m1
prepared_carries law v bytes a m0 m1 is (s.IsAnswered.report job runs k t) h m = absurd (subst RunsJobs is runs)
prepared_carries law v bytes a m0 m1 is (s.IsAnswered.crowded need given runs t c) h m = cc
prepared_carries law v bytes a m0 m1 is (s.IsAnswered.file {made = made} job p k n f) h m = record {
  job = job;
  program = p;
  is = k;
  made_is = m ∙ n;
  carry = subst (λ (ps : List Program). CarryTheirs job.programs ps) (sym (m ∙ n)) (carry_theirs law job.programs (p ∷ []) k.is_made);
}
prepared_carries law v bytes a m0 m1 is (s.IsAnswered.listing p k t) h m = cc
prepared_carries law v bytes a m0 m1 is (s.IsAnswered.refuses k c) h m = cc

prep_headline : TextsCarry → (left rest : Option (List ℕ)) (bytes : List ℕ) (a : Answer) (old new : Option (List ℕ)) (faults : Type 0) (m0 m1 : List Program) (r0 r1 : Option Ran) (x : Exit)
    → IsInput 1048576 verb.Prep left rest bytes → IsAnswered bytes verb.Prep a → IsTaken a old new faults m0 m1 r0 r1 x → x ≡ e.Done
    → Over verb.Prep left (λ bs. CarriesPrepared bs m1)
prep_headline law left rest bytes a old new faults m0 m1 r0 r1 x r k u w =
    let d = taken_done a old new faults m0 m1 r0 r1 x u w in
    over_so (λ bs. CarriesPrepared bs m1) verb.Prep left rest bytes r (prepared_carries law verb.Prep bytes a m0 m1 refl k d.0 d.2)

pub headline_so : TextsCarry → (v : Verb) (left rest : Option (List ℕ)) (bytes : List ℕ) → list_all is_byte bytes ≡ true → (a : Answer) (old new : Option (List ℕ)) (faults : Type 0) (m0 m1 : List Program) (r0 r1 : Option Ran) (x : Exit)
    → IsInput 1048576 v left rest bytes → IsAnswered bytes v a → IsTaken a old new faults m0 m1 r0 r1 x → x ≡ e.Done → AreAsAlone (Some v) left m1 old new
headline_so law verb.Run left rest bytes small a old new faults m0 m1 r0 r1 x r k u w = run_headline law verb.Run left rest bytes small a old new faults m0 m1 r0 r1 x tt r k u w
headline_so law (verb.Gen n) left rest bytes small a old new faults m0 m1 r0 r1 x r k u w =
    run_headline law (verb.Gen n) left rest bytes small a old new faults m0 m1 r0 r1 x tt r k u w
headline_so law verb.Prep left rest bytes small a old new faults m0 m1 r0 r1 x r k u w = prep_headline law left rest bytes a old new faults m0 m1 r0 r1 x r k u w
headline_so law verb.List left rest bytes small a old new faults m0 m1 r0 r1 x r k u w = tt

-- what bytes come to is one thing
surely_done : (v : Verb) (bytes : List ℕ) (a : Answer) → IsAnswered bytes v a → IsSurelyDoneOf v bytes → exit_of a ≡ e.Done
surely_done v bytes a (s.IsAnswered.report job runs k t) b = refl
surely_done v bytes a (s.IsAnswered.crowded {made = made} {line = line} need given runs t d) b =
    absurd (done_no_cause v bytes line.items b (jobs_refuse v bytes line.items runs (crowded_cause bytes line.items made.items need given t d)))
surely_done v bytes a (s.IsAnswered.file job p k m f) b = refl
surely_done v bytes a (s.IsAnswered.listing p k t) b = refl
surely_done v bytes a (s.IsAnswered.refuses {line = line} k d) b = absurd (done_no_cause v bytes line.items b k)

pub complete_so : (v : Verb) (left rest : Option (List ℕ)) (bytes : List ℕ) (a : Answer) (old new : Option (List ℕ)) (faults : Type 0) (m0 m1 : List Program) (r0 r1 : Option Ran) (x : Exit)
    → IsInput 1048576 v left rest bytes → IsAnswered bytes v a → IsTaken a old new faults m0 m1 r0 r1 x → IsSurelyDone (Some v) left → (faults → ⊥) → IsDone x
complete_so v left rest bytes a old new faults m0 m1 r0 r1 x r k (s.IsTaken.whole q t m d) b n =
    subst IsDone (sym (q ∙ surely_done v bytes a k (certain_so (λ bs. IsSurelyDoneOf v bs) v left rest bytes r b))) tt
complete_so v left rest bytes a old new faults m0 m1 r0 r1 x r k (s.IsTaken.cut q t f m d) b n = absurd (n f)

-- what words decide is done, or refused by a line that they decide
decided_whole : (v : Verb) (left rest old new : Option (List ℕ)) (bytes : List ℕ) (a : Answer) (x : Exit) → x ≡ exit_of a → IsInput 1048576 v left rest bytes
    → IsNamedOf v bytes → Appends old new (text_of a) → (exit_of a ≡ e.Refused → CauseOf v bytes (text_of a)) → IsDecided (exit_of a) (Some v) left old new
decided_whole v left rest old new bytes (Report made monitor text) x q r b t k = tt
decided_whole v left rest old new bytes (File made text) x q r b t k = tt
decided_whole v left rest old new bytes (Listing text) x q r b t k = tt
decided_whole v left rest old new bytes (Crowded made line) x q r b t k =
    over_so (λ bs. (told : List ℕ) × CrowdsOf v bs told × Appends old new told) v left rest bytes r
    (line.items, refused_by_words v bytes (Crowded made line) b (k refl), t)
decided_whole v left rest old new bytes (Refusal line) x q r b t k =
    over_so (λ bs. (told : List ℕ) × CrowdsOf v bs told × Appends old new told) v left rest bytes r
    (line.items, refused_by_words v bytes (Refusal line) b (k refl), t)

pub decided_so : (v : Verb) (left rest : Option (List ℕ)) (bytes : List ℕ) (a : Answer) (old new : Option (List ℕ)) (faults : Type 0) (m0 m1 : List Program) (r0 r1 : Option Ran) (x : Exit)
    → IsInput 1048576 v left rest bytes → IsAnswered bytes v a → IsTaken a old new faults m0 m1 r0 r1 x → IsLeftToWords (Some v) left → (faults → ⊥) → IsDecided x (Some v) left old new
decided_so v left rest bytes a old new faults m0 m1 r0 r1 x r k (s.IsTaken.whole q t m d) b n =
    subst (λ (y : Exit). IsDecided y (Some v) left old new) (sym q)
    (decided_whole v left rest old new bytes a x q r (certain_so (λ bs. IsNamedOf v bs) v left rest bytes r b) t (line_so v bytes a k))
decided_so v left rest bytes a old new faults m0 m1 r0 r1 x r k (s.IsTaken.cut q t f m d) b n = absurd (n f)

-- an answer to bytes that a line refuses is that line
told_by : (v : Verb) (bytes line : List ℕ) (a : Answer) → IsAnswered bytes v a → SureCauseOf v bytes line → (exit_of a ≡ e.Refused) × (text_of a ≡ line)
told_by v bytes line a (s.IsAnswered.report {made = made} {monitor = monitor} job runs k t) h =
    absurd (jobs_are_not_refused v bytes line job made.items (world_of monitor) runs k h)
told_by v bytes line a (s.IsAnswered.crowded {made = made} {line = other} need given runs t d) h =
    (refl, sym (sure_same v bytes line other.items h (jobs_refuse v bytes other.items runs (crowded_cause bytes other.items made.items need given t d))))
told_by v bytes line a (s.IsAnswered.file job p k m f) h = absurd (prepared_not_sure bytes line job p k h)
told_by v bytes line a (s.IsAnswered.listing p k t) h = absurd (listed_no_cause bytes line p k h)
told_by v bytes line a (s.IsAnswered.refuses {line = other} k d) h = (refl, sym (sure_same v bytes line other.items h k))

pub faulty_so : (v : Verb) (left rest : Option (List ℕ)) (bytes line : List ℕ) (a : Answer) (old new : Option (List ℕ)) (faults : Type 0) (m0 m1 : List Program) (r0 r1 : Option Ran) (x : Exit)
    → IsInput 1048576 v left rest bytes → IsAnswered bytes v a → IsTaken a old new faults m0 m1 r0 r1 x → IsSurelyRefused (Some v) left line → (faults → ⊥) → IsRefusedBy x old new line
faulty_so v left rest bytes line a old new faults m0 m1 r0 r1 x r k (s.IsTaken.whole q t m d) b n =
    let told = told_by v bytes line a k (certain_so (λ bs. SureCauseOf v bs line) v left rest bytes r b) in
    subst (λ (x : Exit). IsRefusedBy x old new line) (sym (q ∙ told.0)) (subst (λ (t : List ℕ). Appends old new t) told.1 t)
faulty_so v left rest bytes line a old new faults m0 m1 r0 r1 x r k (s.IsTaken.cut q t f m d) b n = absurd (n f)

-- ---- what is made, and left of the run

-- what is made where a job is run and refused
crowded_made : (v : Verb) (left rest old new : Option (List ℕ)) (bytes line : List ℕ) (m0 m1 : List Program) → RunsJobs v → IsInput 1048576 v left rest bytes
    → Appends old new line → MadeBy bytes line m0 m1 → MadeAt e.Refused (Some v) left old new m0 m1
crowded_made verb.Run left rest old new bytes line m0 m1 runs r w h =
    over_so (λ bs. (told : List ℕ) × Appends old new told × MadeBy bs told m0 m1) verb.Run left rest bytes r (line, w, h)
crowded_made (verb.Gen n) left rest old new bytes line m0 m1 runs r w h =
    over_so (λ bs. (told : List ℕ) × Appends old new told × MadeBy bs told m0 m1) (verb.Gen n) left rest bytes r (line, w, h)
crowded_made verb.Prep left rest old new bytes line m0 m1 runs r w h = absurd runs
crowded_made verb.List left rest old new bytes line m0 m1 runs r w h = absurd runs

-- and where it is done
done_made : (v : Verb) (left old new : Option (List ℕ)) (m0 m1 : List Program) → RunsJobs v → MadeAt e.Done (Some v) left old new m0 m1
done_made verb.Run left old new m0 m1 runs = tt
done_made (verb.Gen n) left old new m0 m1 runs = tt
done_made verb.Prep left old new m0 m1 runs = absurd runs
done_made verb.List left old new m0 m1 runs = absurd runs

-- programs that the memory is too small for carry their units
crowded_carry : TextsCarry → (bytes : List ℕ) (made : List Program) (need given : ℕ) → IsCrowded bytes made need given → CarriesCrowded bytes made need given
crowded_carry law bytes made need given d = record { crowded = d; carry = carry_theirs law d.job.programs made d.is.are_made }

made_whole : TextsCarry → (v : Verb) (left rest old new : Option (List ℕ)) (bytes : List ℕ) (a : Answer) (m0 m1 : List Program) → IsInput 1048576 v left rest bytes
    → IsAnswered bytes v a → Appends old new (text_of a) → m1 ≡ made_by a m0 → MadeAt (exit_of a) (Some v) left old new m0 m1
made_whole law v left rest old new bytes a m0 m1 r (s.IsAnswered.report job runs k t) w m = done_made v left old new m0 m1 runs
made_whole law v left rest old new bytes a m0 m1 r (s.IsAnswered.crowded {made = made} {line = line} need given runs t d) w m =
    crowded_made v left rest old new bytes line.items m0 m1 runs r w (inl (
      need,
      given,
      t,
      subst (λ (ms : List Program). CarriesCrowded bytes ms need given) (sym m) (crowded_carry law bytes made.items need given d),
    ))
made_whole law v left rest old new bytes a m0 m1 r (s.IsAnswered.file job p k n f) w m = tt
made_whole law v left rest old new bytes a m0 m1 r (s.IsAnswered.listing p k t) w m = m
made_whole law verb.Run left rest old new bytes a m0 m1 r (s.IsAnswered.refuses {line = line} k d) w m =
    crowded_made verb.Run left rest old new bytes line.items m0 m1 tt r w (inr (m, d))
made_whole law (verb.Gen n) left rest old new bytes a m0 m1 r (s.IsAnswered.refuses {line = line} k d) w m =
    crowded_made (verb.Gen n) left rest old new bytes line.items m0 m1 tt r w (inr (m, d))
made_whole law verb.Prep left rest old new bytes a m0 m1 r (s.IsAnswered.refuses k d) w m = m
made_whole law verb.List left rest old new bytes a m0 m1 r (s.IsAnswered.refuses k d) w m = m

pub made_so : TextsCarry → (v : Verb) (left rest : Option (List ℕ)) (bytes : List ℕ) (a : Answer) (old new : Option (List ℕ)) (faults : Type 0) (m0 m1 : List Program) (r0 r1 : Option Ran) (x : Exit)
    → IsInput 1048576 v left rest bytes → IsAnswered bytes v a → IsTaken a old new faults m0 m1 r0 r1 x → MadeAt x (Some v) left old new m0 m1
made_so law v left rest bytes a old new faults m0 m1 r0 r1 x r k (s.IsTaken.whole q t m d) =
    subst (λ (x : Exit). MadeAt x (Some v) left old new m0 m1) (sym q) (made_whole law v left rest old new bytes a m0 m1 r k t m)
made_so law v left rest bytes a old new faults m0 m1 r0 r1 x r k (s.IsTaken.cut q t f m d) = subst (λ (x : Exit). MadeAt x (Some v) left old new m0 m1) (sym q) m

-- what is left of a job that was run and done
done_ran : (v : Verb) (r0 r1 : Option Ran) → RunsJobs v → RanAt e.Done (Some v) r0 r1
done_ran verb.Run r0 r1 runs = tt
done_ran (verb.Gen n) r0 r1 runs = tt
done_ran verb.Prep r0 r1 runs = absurd runs
done_ran verb.List r0 r1 runs = absurd runs

ran_whole : (v : Verb) (bytes : List ℕ) (a : Answer) (r0 r1 : Option Ran) → IsAnswered bytes v a → r1 ≡ ran_by a r0 → RanAt (exit_of a) (Some v) r0 r1
ran_whole v bytes a r0 r1 (s.IsAnswered.report job runs k t) d = done_ran v r0 r1 runs
ran_whole v bytes a r0 r1 (s.IsAnswered.crowded need given runs t c) d = d
ran_whole v bytes a r0 r1 (s.IsAnswered.file job p k n f) d = d
ran_whole v bytes a r0 r1 (s.IsAnswered.listing p k t) d = d
ran_whole v bytes a r0 r1 (s.IsAnswered.refuses k c) d = d

pub ran_so : (v : Verb) (bytes : List ℕ) (a : Answer) (old new : Option (List ℕ)) (faults : Type 0) (m0 m1 : List Program) (r0 r1 : Option Ran) (x : Exit)
    → IsAnswered bytes v a → IsTaken a old new faults m0 m1 r0 r1 x → RanAt x (Some v) r0 r1
ran_so v bytes a old new faults m0 m1 r0 r1 x k (s.IsTaken.whole q t m d) = subst (λ (x : Exit). RanAt x (Some v) r0 r1) (sym q) (ran_whole v bytes a r0 r1 k d)
ran_so v bytes a old new faults m0 m1 r0 r1 x k (s.IsTaken.cut q t f m d) = subst (λ (x : Exit). RanAt x (Some v) r0 r1) (sym q) d

-- ---- how a taken answer ends

pub ends_so : (a : Answer) (old new : Option (List ℕ)) (faults : Type 0) (m0 m1 : List Program) (r0 r1 : Option Ran) (x y : Exit)
    → IsTaken a old new faults m0 m1 r0 r1 x → x ≡ y → (y ≡ e.Done) ⊎ ((y ≡ e.Refused) ⊎ (y ≡ e.WriteFault))
ends_so a old new faults m0 m1 r0 r1 x y (s.IsTaken.cut q t f m d) i = inr (inr (sym i ∙ q))
ends_so a old new faults m0 m1 r0 r1 x y (s.IsTaken.whole q t m d) i = by a (sym i ∙ q)
  where
    by : (a : Answer) → y ≡ exit_of a → (y ≡ e.Done) ⊎ ((y ≡ e.Refused) ⊎ (y ≡ e.WriteFault))
    by (Report made monitor text) h = inl h
    by (Crowded made line) h = inr (inl h)
    by (File made text) h = inl h
    by (Listing text) h = inl h
    by (Refusal line) h = inr (inl h)
