-- What is answered of bytes is what they come to.
-- 1. what bytes keep within                (fits_so, programs_fit_so)
-- 2. a line that refuses a job             (run_line_so to prep_program_so)
-- 3. a job that runs                       (run_so)
-- 4. a job that is prepared                (single_so, prepared_so)
-- 5. a program file                        (listed_so, unlisted_so)
-- 6. the only one of a list               (file_is)
use Rattle.std.proofs.Common.{ℕ, ◌≡◌, ◌≤◌, List, [], ◌∷◌, map, length, get_or, None, Result, Ok, Err, Vec, Global, refl, ap, sym, subst, ◌∙◌, arith}
use Rattle.std.specs.Prelude.{IfOk, Bool, true, false}
use Rattle.hp_program.specs.declared.program.Program.{Program}
use Rattle.job_report.specs.Listings.{listing_of}
use Rattle.job_gen.specs.job_text.declared.faults.JobFault.{JobFault}
use Rattle.job_gen.specs.job_text.declared.faults.JobFault.TheVariants as fault
use Rattle.job_gen.specs.job_text.declared.job.Job.{Job}
use Rattle.job_gen.specs.job_text.declared.job.Text.{Text}
use Rattle.job_gen.specs.job_text.Answers.{IsFault}
use Rattle.job_gen.specs.job_text.Fits.{Each, ProgramFits, JobFits}
use Rattle.job_gen.specs.job_text.Jobs.{JobIs}
use Rattle.job_gen.specs.job_text.Views.{text_value, job_value}
use Rattle.job_gen.proofs.job_text_proofs.FitLemmas.{jobs_fit}
use Rattle.job_gen.proofs.job_text_proofs.PrepLemmas.{prepared_jobs_are_single}
use Rattle.mpe_progfile.specs.declared.faults.FileFault.{FileFault}
use Rattle.mpe_progfile.specs.declared.faults.FileFault.TheVariants as file_fault
use Rattle.mpe_progfile.specs.Files.{IsFile}
use Rattle.mpe_progfile.specs.Reading.{read_file}
use Rattle.mpe_progfile.specs.Views.{Fails}
use Rattle.hp3000_top.specs.declared.answer.Answer.{Answer}
use Rattle.hp3000_top.specs.declared.answer.Answer.TheVariants.{Report, Crowded, File, Listing, Refusal}
use Rattle.hp3000_top.specs.declared.verbs.Verb.{Verb}
use Rattle.hp3000_top.specs.declared.verbs.Verb.TheVariants as verb
use Rattle.hp3000_top.specs.Programs.{AreMade, FirstRefused}
use Rattle.hp3000_top.specs.Causes.{RunsJobs, account_with, IsJob, Cause, Unprepared, Unlisted, file_line}
use Rattle.hp3000_top.specs.Causes as c
use Rattle.job_runs.specs.Reported.{names_of}
use Rattle.job_runs.specs.mpe_overlay.Codes.{codes_of}
use Rattle.job_runs.specs.mpe_worlds.Opening.{opening}
use Rattle.job_runs.specs.mpe_worlds.Dispatch.{after}
use Rattle.job_runs.specs.mpe_turns.Monitors.{world_of}
use Rattle.job_runs.specs.mpe_turns.Opening.{refusal}
use Rattle.hp3000_top.specs.Answers.{IsCrowded, IsOfMemory}
use Rattle.hp3000_top.specs.Steps.{Answers, IsAnswered, TellsJob, IsFileOf, IsFaultOfFile}
use Rattle.hp3000_top.specs.Steps as s
use Rattle.hp3000_top.proofs.Loops.{job_fits_more}
use Rattle.hp3000_top.proofs.LineLemmas.{job_line_not, program_line_not, stack_line_not}
use Rattle.hp3000_top.proofs.Headline.{made_count}

-- ---- 1. what bytes keep within

pub fits_so : (bytes : List ℕ) (prep : Bool) (job : Job) → length bytes ≤ 1048576 → JobIs bytes prep (job_value job) → JobFits 1048576 (job_value job)
fits_so bytes prep job l is = job_fits_more (length bytes) 1048576 (job_value job) l (jobs_fit bytes prep (job_value job) is)

pub programs_fit_so : (bytes : List ℕ) (prep : Bool) (job : Job) (texts : List Text) → length bytes ≤ 1048576 → JobIs bytes prep (job_value job) → texts ≡ job.programs.items
    → Each (ProgramFits 1048576) (map text_value texts)
programs_fit_so bytes prep job texts l is e =
    subst (λ (ts : List Text). Each (ProgramFits 1048576) (map text_value ts)) (sym e) (fits_so bytes prep job l is).each_program

-- ---- 2. a line that refuses a job

-- each verb that runs a job is answered by a line that refuses it, which is not that of a memory that is too small
line_so : (v : Verb) (bytes : List ℕ) (line : Vec ℕ Global) → RunsJobs v → Cause bytes line.items → (IsOfMemory line.items → ⊥)
    → IsAnswered bytes v (Refusal line)
line_so verb.Run bytes line runs k m = s.IsAnswered.refuses k m
line_so (verb.Gen number) bytes line runs k m = s.IsAnswered.refuses k m
line_so verb.Prep bytes line runs k m = absurd runs
line_so verb.List bytes line runs k m = absurd runs

pub run_line_so : (v : Verb) (bytes : List ℕ) (f : JobFault) (line : Vec ℕ Global) → RunsJobs v → IsFault bytes false f → TellsJob f line.items
    → IsAnswered bytes v (Refusal line)
run_line_so v bytes (fault.Rule l r) line runs k t =
    line_so v bytes line runs (subst (Cause bytes) (sym t) (c.Cause.lines k)) (λ m. job_line_not l r (subst IsOfMemory t m))
run_line_so v bytes fault.NoMemory line runs k t = absurd t

pub prep_line_so : (bytes : List ℕ) (f : JobFault) (line : Vec ℕ Global) → IsFault bytes true f → TellsJob f line.items → IsAnswered bytes verb.Prep (Refusal line)
prep_line_so bytes (fault.Rule l r) line k t = s.IsAnswered.refuses (subst (Unprepared bytes) (sym t) (c.Unprepared.broken k)) tt
prep_line_so bytes fault.NoMemory line k t = absurd t

pub run_program_so : (v : Verb) (bytes : List ℕ) (line : Vec ℕ Global) (job : Job) (texts : List Text) → RunsJobs v → JobIs bytes false (job_value job)
    → texts ≡ job.programs.items → FirstRefused (map text_value texts) line.items → IsAnswered bytes v (Refusal line)
run_program_so v bytes line job texts runs is e r =
    let k : FirstRefused (job_value job).programs line.items = subst (λ (ts : List Text). FirstRefused (map text_value ts) line.items) e r in
    line_so v bytes line runs (c.Cause.program (job_value job) is k) (λ m. program_line_not k m)

pub prep_program_so : (bytes : List ℕ) (line : Vec ℕ Global) (job : Job) (texts : List Text) → JobIs bytes true (job_value job) → texts ≡ job.programs.items
    → FirstRefused (map text_value texts) line.items → IsAnswered bytes verb.Prep (Refusal line)
prep_program_so bytes line job texts is e r =
    s.IsAnswered.refuses (c.Unprepared.unmade (job_value job) is (subst (λ (ts : List Text). FirstRefused (map text_value ts) line.items) e r)) tt

-- ---- 3. a job that runs

-- the job that was read, and what was made of it
is_job : (bytes : List ℕ) (job : Job) (programs : List Program) → JobIs bytes false (job_value job) → AreMade (job_value job).programs programs
    → IsJob bytes (job_value job) programs job.seats.items
is_job bytes job programs is a = record { is = is; are_made = a; are_seats = refl }

answer_so : (v : Verb) (bytes : List ℕ) (count : ℕ) (job : Job) (programs : List Program) (a : Answer) → RunsJobs v → count ≡ length bytes
    → JobIs bytes false (job_value job) → AreMade (job_value job).programs programs → Answers v count (job_value job) job.seats.items programs a → IsAnswered bytes v a
answer_so v bytes count job programs (Report made monitor text) runs e is m h = s.IsAnswered.report (job_value job) runs (record {
  seats = job.seats.items;
  is = subst (λ (ps : List Program). IsJob bytes (job_value job) ps job.seats.items) (sym h.0) (is_job bytes job programs is m);
  opens = subst (λ (ps : List Program). refusal job.memory job.seats.items ps ≡ None) (sym h.0) h.1;
  world = subst (λ (ps : List Program). world_of monitor ≡ after (codes_of ps) job.quantum job.turns (opening job.memory job.seats.items ps)) (sym h.0) h.2;
}) (h.3 ∙ ap (λ (k : ℕ). account_with v k (names_of (job_value job).programs) job.stats (world_of monitor)) e)
answer_so v bytes count job programs (Refusal line) runs e is m h =
    let j = is_job bytes job programs is m in
    line_so v bytes line runs (subst (Cause bytes) (sym h.2) (c.Cause.sessions (job_value job) programs job.seats.items j h.1))
    (λ m. stack_line_not h.0 h.3 (subst IsOfMemory h.2 m))
answer_so v bytes count job programs (Crowded made line) runs e is m h =
    s.IsAnswered.crowded h.1.0 h.1.1 runs h.1.3 (subst (λ (ps : List Program). IsCrowded bytes ps h.1.0 h.1.1) (sym h.0) (record {
      job = job_value job;
      seats = job.seats.items;
      is = is_job bytes job programs is m;
      refused = h.1.2;
    }))
answer_so v bytes count job programs (File made text) runs e is m h = absurd h
answer_so v bytes count job programs (Listing text) runs e is m h = absurd h

pub run_so : {E : Type 0} (v : Verb) (bytes : List ℕ) (count : ℕ) (job : Job) (texts : List Text) (programs : List Program) (r : Result Answer E) → RunsJobs v
    → count ≡ length bytes → JobIs bytes false (job_value job) → texts ≡ job.programs.items → AreMade (map text_value texts) programs
    → IfOk r (λ a. Answers v count (job_value job) job.seats.items programs a) → IfOk r (λ a. IsAnswered bytes v a)
run_so v bytes count job texts programs (Ok a) runs l is e m h =
    answer_so v bytes count job programs a runs l is (subst (λ (ts : List Text). AreMade (map text_value ts) programs) e m) h
run_so v bytes count job texts programs (Err e) runs l is d m h = tt

-- ---- 4. a job that is prepared

-- its programs are one
pub single_so : (bytes : List ℕ) (job : Job) (texts : List Text) (programs : List Program) → JobIs bytes true (job_value job) → texts ≡ job.programs.items
    → AreMade (map text_value texts) programs → length programs ≡ 1
single_so bytes job texts programs is e m =
    made_count (subst (λ (ts : List Text). AreMade (map text_value ts) programs) e m) ∙ (prepared_jobs_are_single bytes (job_value job) is).0

file_so : (bytes : List ℕ) (job : Job) (programs : List Program) (a : Answer) → JobIs bytes true (job_value job) → AreMade (job_value job).programs programs
    → IsFileOf programs a → IsAnswered bytes verb.Prep a
file_so bytes job programs (File made text) is m h = s.IsAnswered.file (job_value job) h.0
    (record { is = is; is_made = subst (AreMade (job_value job).programs) h.1 m }) (h.2 ∙ h.1) h.3
file_so bytes job programs (Report made monitor text) is m h = absurd h
file_so bytes job programs (Crowded made line) is m h = absurd h
file_so bytes job programs (Listing text) is m h = absurd h
file_so bytes job programs (Refusal line) is m h = absurd h

pub prepared_so : {E : Type 0} (bytes : List ℕ) (job : Job) (texts : List Text) (programs : List Program) (r : Result Answer E) → JobIs bytes true (job_value job)
    → texts ≡ job.programs.items → AreMade (map text_value texts) programs → IfOk r (λ a. IsFileOf programs a) → IfOk r (λ a. IsAnswered bytes verb.Prep a)
prepared_so bytes job texts programs (Ok a) is e m h = file_so bytes job programs a is (subst (λ (ts : List Text). AreMade (map text_value ts) programs) e m) h
prepared_so bytes job texts programs (Err e) is d m h = tt

-- ---- 5. a program file

pub listed_so : (bytes : List ℕ) (program : Program) (text : Vec ℕ Global) → IsFile program bytes → text.items ≡ listing_of program → IsAnswered bytes verb.List (Listing text)
listed_so bytes program text k e = s.IsAnswered.listing program k e

fault_is : (bytes line : List ℕ) (f : FileFault) → Fails f (read_file bytes) → IsFaultOfFile f → line ≡ file_line f → Unlisted bytes line
fault_is bytes line (file_fault.Truncated b) k t e = subst (Unlisted bytes) (sym e) (c.Unlisted.fault k)
fault_is bytes line (file_fault.BadHead b) k t e = subst (Unlisted bytes) (sym e) (c.Unlisted.fault k)
fault_is bytes line (file_fault.BadSegment b) k t e = subst (Unlisted bytes) (sym e) (c.Unlisted.fault k)
fault_is bytes line (file_fault.Trailing b) k t e = subst (Unlisted bytes) (sym e) (c.Unlisted.fault k)
fault_is bytes line (file_fault.BadLabel b) k t e = subst (Unlisted bytes) (sym e) (c.Unlisted.fault k)
fault_is bytes line file_fault.NoMemory k t e = absurd t

pub unlisted_so : (bytes : List ℕ) (f : FileFault) (line : Vec ℕ Global) → Fails f (read_file bytes) → IsFaultOfFile f → line.items ≡ file_line f
    → IsAnswered bytes verb.List (Refusal line)
unlisted_so bytes f line k t e = s.IsAnswered.refuses (fault_is bytes line.items f k t e) tt

-- ---- 6. the only one of a list

only_so : (ps : List Program) (p : Program) → length ps ≡ 1 → p ≡ get_or ps 0 p → ps ≡ p ∷ []
only_so [] p l g = cc
only_so (q ∷ []) p l g = ap (λ x. x ∷ []) (sym g)
only_so (q ∷ r ∷ ps) p l g = absurd (omega (arith, l))

pub file_is : (made : Vec Program Global) (text : Vec ℕ Global) (p : Program) → length made.items ≡ 1 → p ≡ get_or made.items 0 p → IsFile p text.items
    → IsFileOf made.items (File made text)
file_is made text p l g k = (p, only_so made.items p l g, refl, k)
