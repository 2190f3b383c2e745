-- What is answered of a text is what the text is.
use Rattle.std.proofs.Common.{◌≡◌, ℕ, Bool, List, sym, ap, ◌∙◌}
use Rattle.std.specs.Prelude.{Result, Ok, Err, IfOk, IfErr}
use Rattle.job_text.specs.declared.faults.JobFault.{JobFault}
use Rattle.job_text.specs.declared.faults.JobFault.TheVariants.{Rule, NoMemory}
use Rattle.job_text.specs.declared.job.Job.{Job}
use Rattle.job_lines.specs.Lines.{lines}
use Rattle.job_text.specs.States.{State, start}
use Rattle.job_text.specs.Jobs.{JobValue, job_of, JobIs, JobBreaks}
use Rattle.job_text.specs.Verdicts.{verdict_from, with_job, verdict}
use Rattle.job_text.specs.Views.{job_value}
use Rattle.job_text.specs.Answers.{Fails, Answers, IsFault, GivesJob, GivesFault}
use Rattle.job_text.proofs.JobLaws.{job_is, job_breaks, jobs_break_nothing, jobs_are_unique, faults_are_unique}

pub answered_ok : (bytes : List ℕ) (prep : Bool) (r : Result Job JobFault) → Answers r (verdict prep bytes) → IfOk r (λ job. JobIs bytes prep (job_value job))
answered_ok bytes prep (Ok job) h = job_is bytes prep (job_value job) h
answered_ok bytes prep (Err f) h = tt

pub answered_fault : (bytes : List ℕ) (prep : Bool) (r : Result Job JobFault) → Answers r (verdict prep bytes) → IfErr r (λ f. IsFault bytes prep f)
answered_fault bytes prep (Ok job) h = tt
answered_fault bytes prep (Err (Rule line rule)) h = job_breaks bytes prep (record { line = line; rule = rule }) h
answered_fault bytes prep (Err NoMemory) h = tt

-- a job is answered as that job
pub answered_jobs : (bytes : List ℕ) (prep : Bool) (r : Result Job JobFault) (job : JobValue) → Answers r (verdict prep bytes) → JobIs bytes prep job → GivesJob r job
answered_jobs bytes prep (Ok given) job h is = jobs_are_unique bytes prep (job_value given) job (job_is bytes prep (job_value given) h) is
answered_jobs bytes prep (Err (Rule line rule)) job h is = jobs_break_nothing bytes prep job line rule is (job_breaks bytes prep (record { line = line; rule = rule }) h)
answered_jobs bytes prep (Err NoMemory) job h is = tt

-- and a fault as that fault
pub answered_faults : (bytes : List ℕ) (prep : Bool) (r : Result Job JobFault) (line rule : ℕ) → Answers r (verdict prep bytes) → JobBreaks bytes prep line rule
    → GivesFault r line rule
answered_faults bytes prep (Ok given) line rule h b = jobs_break_nothing bytes prep (job_value given) line rule (job_is bytes prep (job_value given) h) b
answered_faults bytes prep (Err (Rule l r)) line rule h b = faults_are_unique bytes prep l r line rule (job_breaks bytes prep (record { line = l; rule = r }) h) b
answered_faults bytes prep (Err NoMemory) line rule h b = tt

-- what lines come to is what their text does
pub read_ok : (bytes : List ℕ) (prep : Bool) (s t : State) (job : Job) → s ≡ start → verdict_from prep 1 (lines bytes) s ≡ Ok t → job_value job ≡ job_of t
    → verdict prep bytes ≡ Ok (job_value job)
unfolding verdict
read_ok bytes prep s t job at e j = ap with_job (ap (verdict_from prep 1 (lines bytes)) (sym at) ∙ e) ∙ ap Ok (sym j)

pub read_fault : (bytes : List ℕ) (prep : Bool) (s : State) (f : JobFault) → s ≡ start → Fails f (verdict_from prep 1 (lines bytes) s) → Fails f (verdict prep bytes)
unfolding verdict
read_fault bytes prep s (Rule line rule) at e = ap with_job (ap (verdict_from prep 1 (lines bytes)) (sym at) ∙ e)
read_fault bytes prep s NoMemory at e = tt

pub ruleset answers = (read_ok, read_fault)
