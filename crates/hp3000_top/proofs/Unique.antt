-- What is certain of bytes comes to one thing: a line that refuses them, or a job that runs.
use Rattle.std.proofs.Common.{◌≡◌, ℕ, true, false, ◌+◌, ◌≤◌, List, map, None, Some, Result, Ok, Err, sym, ap, subst, ◌∙◌}
use Rattle.hp_program.specs.declared.program.Program.{Program}
use Rattle.job_gen.specs.job_text.Jobs.{JobValue, JobIs}
use Rattle.job_gen.specs.job_text.States.{SeatValue}
use Rattle.job_gen.specs.job_text.Views.{seat_value}
use Rattle.job_gen.proofs.job_text_proofs.JobLaws.{jobs_are_unique, jobs_break_nothing, faults_are_unique}
use Rattle.job_report.specs.Refusals.{job_refused, memory_refused}
use Rattle.mpe_progfile.specs.declared.faults.FileFault.{FileFault}
use Rattle.mpe_progfile.specs.Files.{IsFile}
use Rattle.mpe_progfile.specs.Reading.{Parts}
use Rattle.mpe_progfile.proofs.FileLaws.{file_read}
use Rattle.job_gen.specs.mpe_session.declared.seat.Seat.{Seat}
use Rattle.job_runs.specs.mpe_worlds.Worlds.{World}
use Rattle.job_runs.specs.mpe_turns.declared.fault.OpenFault.{OpenFault}
use Rattle.job_runs.specs.mpe_turns.Opening.{refusal}
use Rattle.hp3000_top.specs.Programs.{AreMade, FirstRefused, AreSure, FirstFaulty}
use Rattle.hp3000_top.specs.declared.verbs.Verb.{Verb}
use Rattle.hp3000_top.specs.declared.verbs.Verb.TheVariants as verb
use Rattle.hp3000_top.specs.Causes.{RunsJobs, IsJob, Cause, SureCause, Runs, open_line, IsPrepared, Unprepared, SurelyUnprepared, Unlisted, CauseOf, SureCauseOf, file_line}
use Rattle.hp3000_top.specs.Causes as c
use Rattle.hp3000_top.specs.Answers.{IsCrowded, IsSurelyDoneOf}
use Rattle.hp3000_top.specs.Needs.{Need, AllNeed, first_small, held_words, most_needed, SurelyOpens}
use Rattle.hp3000_top.proofs.Sureness.{some_is, sure_not_first, first_not_made, first_same}
use Rattle.hp3000_top.proofs.Needs.{all_fit, all_sure, opens_so, stacks_refuse}

-- ---- jobs

same_job : (bytes : List ℕ) (a b : JobValue) → JobIs bytes false a → JobIs bytes false b → a ≡ b
same_job bytes a b v w = jobs_are_unique bytes false a b v w

first_not_made_of : (bytes : List ℕ) (a b : JobValue) (made : List Program) (line : List ℕ) → JobIs bytes false a → FirstFaulty a.programs line → JobIs bytes false b
    → AreMade b.programs made → ⊥
first_not_made_of bytes a b made line v vs w ws =
    first_not_made vs (subst (λ (j : JobValue). AreMade j.programs made) (same_job bytes b a w v) ws)

-- a job of programs that no line refuses is not refused for a program
sure_not_first_of : (bytes : List ℕ) (a b : JobValue) (line : List ℕ) → JobIs bytes false a → AreSure a.programs → JobIs bytes false b
    → FirstRefused b.programs line → ⊥
sure_not_first_of bytes a b line v vs w ws = sure_not_first vs (subst (λ (j : JobValue). FirstRefused j.programs line) (same_job bytes b a w v) ws)

stacks_refuse_of : (bytes : List ℕ) (a b : JobValue) (made : List Program) (seats : List Seat) (needs : List Need) (f : OpenFault) → JobIs bytes false a
    → AllNeed a.programs needs → first_small 0 needs a.sessions ≡ Some f → IsJob bytes b made seats → refusal b.memory seats made ≡ Some f
stacks_refuse_of bytes a b made seats needs f v k o w =
    let same : b ≡ a = same_job bytes b a w.is v in
    stacks_refuse b.memory seats f (all_fit k (subst (λ (j : JobValue). AreMade j.programs made) same w.are_made))
    (ap (first_small 0 needs) (w.are_seats ∙ ap (λ (j : JobValue). j.sessions) same) ∙ o)

opens_of : (bytes : List ℕ) (x : SurelyOpens bytes) (b : JobValue) (made : List Program) (seats : List Seat) → IsJob bytes b made seats
    → refusal b.memory seats made ≡ None
opens_of bytes x b made seats w =
    let same : b ≡ x.job = same_job bytes b x.job w.is x.is in
    let sessions = w.are_seats ∙ ap (λ (j : JobValue). j.sessions) same in
    opens_so b.memory seats (all_fit x.need (subst (λ (j : JobValue). AreMade j.programs made) same w.are_made))
    (ap (first_small 0 x.needs) sessions ∙ x.stacks)
    (subst (λ (m : ℕ). held_words (map seat_value seats) + most_needed x.needs ≤ m) (ap (λ (j : JobValue). j.memory) (sym same))
    (subst (λ (ss : List SeatValue). held_words ss + most_needed x.needs ≤ x.job.memory) (sym sessions) x.memory))

-- a memory that is too small refuses a job
pub crowded_cause : (bytes line : List ℕ) (made : List Program) (need given : ℕ) → line ≡ memory_refused need given → IsCrowded bytes made need given → Cause bytes line
crowded_cause bytes line made need given e x = subst (Cause bytes) (sym e) (c.Cause.sessions x.job made x.seats x.is x.refused)

-- ---- what bytes come to

line_same : {f g : OpenFault} → Some f ≡ Some g → open_line f ≡ open_line g
line_same e = ap open_line (some_is e)

-- a line that is certain is the one by which they are refused
pub sure_cause_same : (bytes a b : List ℕ) → SureCause bytes a → Cause bytes b → a ≡ b
sure_cause_same bytes a b (c.SureCause.lines {l = l} {r = r} v) (c.Cause.lines {l = m} {r = q} w) =
    let e = faults_are_unique bytes false l r m q v w in ap (λ x. job_refused x r) e.0 ∙ ap (λ x. job_refused m x) e.1
sure_cause_same bytes a b (c.SureCause.lines {l = l} {r = r} v) (c.Cause.program job w ws) = absurd (jobs_break_nothing bytes false job l r w v)
sure_cause_same bytes a b (c.SureCause.lines {l = l} {r = r} v) (c.Cause.sessions job made seats w o) = absurd (jobs_break_nothing bytes false job l r w.is v)
sure_cause_same bytes a b (c.SureCause.program job w ws) (c.Cause.lines {l = l} {r = r} v) = absurd (jobs_break_nothing bytes false job l r w v)
sure_cause_same bytes a b (c.SureCause.program job v vs) (c.Cause.program other w ws) =
    first_same vs (subst (λ (j : JobValue). FirstRefused j.programs b) (same_job bytes other job w v) ws)
sure_cause_same bytes a b (c.SureCause.program job v vs) (c.Cause.sessions other made seats w o) = absurd (first_not_made_of bytes job other made a v vs w.is w.are_made)
sure_cause_same bytes a b (c.SureCause.stacks job needs w k o) (c.Cause.lines {l = l} {r = r} v) = absurd (jobs_break_nothing bytes false job l r w v)
sure_cause_same bytes a b (c.SureCause.stacks job needs w k o) (c.Cause.program other v vs) = absurd (sure_not_first_of bytes job other b w (all_sure k) v vs)
sure_cause_same bytes a b (c.SureCause.stacks {f = f} job needs w k o) (c.Cause.sessions other others places v q) =
    line_same (sym (stacks_refuse_of bytes job other others places needs f w k o v) ∙ q)

-- a job that runs is not certainly refused
runs_not_sure : (bytes line : List ℕ) (job : JobValue) (made : List Program) (w : World) → Runs bytes job made w → SureCause bytes line → ⊥
runs_not_sure bytes line job made w v (c.SureCause.lines {l = l} {r = r} b) = jobs_break_nothing bytes false job l r v.is.is b
runs_not_sure bytes line job made w v (c.SureCause.program other b bs) = first_not_made_of bytes other job made line b bs v.is.is v.is.are_made
runs_not_sure bytes line job made w v (c.SureCause.stacks {f = f} other needs b k o) =
    let n = sym v.opens ∙ stacks_refuse_of bytes other job made v.seats needs f b k o v.is in cc

-- one whose sessions surely open is not refused
opens_no_cause : (bytes line : List ℕ) → SurelyOpens bytes → Cause bytes line → ⊥
opens_no_cause bytes line x (c.Cause.lines {l = l} {r = r} b) = jobs_break_nothing bytes false x.job l r x.is b
opens_no_cause bytes line x (c.Cause.program other b bs) = sure_not_first_of bytes x.job other line x.is (all_sure x.need) b bs
opens_no_cause bytes line x (c.Cause.sessions other others places b q) = let n = sym (opens_of bytes x other others places b) ∙ q in cc

-- ---- a job to be prepared

sure_unprepared_same : (bytes a b : List ℕ) → SurelyUnprepared bytes a → Unprepared bytes b → a ≡ b
sure_unprepared_same bytes a b (c.SurelyUnprepared.broken {l = l} {r = r} v) (c.Unprepared.broken {l = m} {r = q} w) =
    let e = faults_are_unique bytes true l r m q v w in ap (λ x. job_refused x r) e.0 ∙ ap (λ x. job_refused m x) e.1
sure_unprepared_same bytes a b (c.SurelyUnprepared.broken {l = l} {r = r} v) (c.Unprepared.unmade job w ws) = absurd (jobs_break_nothing bytes true job l r w v)
sure_unprepared_same bytes a b (c.SurelyUnprepared.unmade job w ws) (c.Unprepared.broken {l = l} {r = r} v) = absurd (jobs_break_nothing bytes true job l r w v)
sure_unprepared_same bytes a b (c.SurelyUnprepared.unmade job v vs) (c.Unprepared.unmade other w ws) =
    first_same vs (subst (λ (j : JobValue). FirstRefused j.programs b) (jobs_are_unique bytes true other job w v) ws)

pub prepared_not_sure : (bytes line : List ℕ) (job : JobValue) (p : Program) → IsPrepared bytes job p → SurelyUnprepared bytes line → ⊥
prepared_not_sure bytes line job p v (c.SurelyUnprepared.broken {l = l} {r = r} w) = jobs_break_nothing bytes true job l r v.is w
prepared_not_sure bytes line job p v (c.SurelyUnprepared.unmade other w ws) =
    first_not_made (subst (λ (j : JobValue). FirstFaulty j.programs line) (jobs_are_unique bytes true other job w v.is) ws) v.is_made

sure_not_unprepared : (bytes line : List ℕ) (job : JobValue) (p : Program) → IsPrepared bytes job p → AreSure job.programs → Unprepared bytes line → ⊥
sure_not_unprepared bytes line job p v k (c.Unprepared.broken {l = l} {r = r} w) = jobs_break_nothing bytes true job l r v.is w
sure_not_unprepared bytes line job p v k (c.Unprepared.unmade other w ws) =
    sure_not_first k (subst (λ (j : JobValue). FirstRefused j.programs line) (jobs_are_unique bytes true other job w v.is) ws)

-- ---- a program file

abbrev fault_in : FileFault → Result Parts FileFault → FileFault
fault_in f (Ok r) = f
fault_in f (Err g) = g

unlisted_same : (bytes a b : List ℕ) → Unlisted bytes a → Unlisted bytes b → a ≡ b
unlisted_same bytes a b (c.Unlisted.fault {f = f} v) (c.Unlisted.fault w) = ap file_line (ap (fault_in f) (sym v ∙ w))

pub listed_no_cause : (bytes line : List ℕ) (p : Program) → IsFile p bytes → Unlisted bytes line → ⊥
listed_no_cause bytes line p v (c.Unlisted.fault w) = let d = sym (file_read p bytes v) ∙ w in cc

-- ---- by the verb

-- a job that is refused refuses each verb that runs it, and one that runs does not
pub jobs_refuse : (v : Verb) (bytes line : List ℕ) → RunsJobs v → Cause bytes line → CauseOf v bytes line
jobs_refuse verb.Run bytes line runs k = k
jobs_refuse (verb.Gen n) bytes line runs k = k
jobs_refuse verb.Prep bytes line runs k = absurd runs
jobs_refuse verb.List bytes line runs k = absurd runs

pub jobs_are_not_refused : (v : Verb) (bytes line : List ℕ) (job : JobValue) (made : List Program) (w : World) → RunsJobs v → Runs bytes job made w
    → SureCauseOf v bytes line → ⊥
jobs_are_not_refused verb.Run bytes line job made w runs k h = runs_not_sure bytes line job made w k h
jobs_are_not_refused (verb.Gen n) bytes line job made w runs k h = runs_not_sure bytes line job made w k h
jobs_are_not_refused verb.Prep bytes line job made w runs k h = absurd runs
jobs_are_not_refused verb.List bytes line job made w runs k h = absurd runs

-- a line that is certain is the only one that refuses bytes
pub sure_same : (v : Verb) (bytes a b : List ℕ) → SureCauseOf v bytes a → CauseOf v bytes b → a ≡ b
sure_same verb.Run bytes a b k l = sure_cause_same bytes a b k l
sure_same verb.Prep bytes a b k l = sure_unprepared_same bytes a b k l
sure_same verb.List bytes a b k l = unlisted_same bytes a b k l
sure_same (verb.Gen n) bytes a b k l = sure_cause_same bytes a b k l

-- and none refuses those of which something is surely made
pub done_no_cause : (v : Verb) (bytes line : List ℕ) → IsSurelyDoneOf v bytes → CauseOf v bytes line → ⊥
done_no_cause verb.Run bytes line b k = opens_no_cause bytes line b k
done_no_cause verb.Prep bytes line b k = sure_not_unprepared bytes line b.0 b.1 b.2 b.3 k
done_no_cause verb.List bytes line b k = listed_no_cause bytes line b.0 b.1 k
done_no_cause (verb.Gen n) bytes line b k = opens_no_cause bytes line b k
