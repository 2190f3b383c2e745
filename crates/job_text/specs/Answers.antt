-- What the reader's answers say.
use Rattle.std.specs.Prelude.{◌≡◌, ℕ, Bool, List, Option, None, Some, Result, Ok, Err}
use Rattle.std.specs.declared.alloc.AllocError.{AllocError}
use Rattle.job_text.specs.declared.faults.JobFault.{JobFault}
use Rattle.job_text.specs.declared.faults.JobFault.TheVariants.{Rule, NoMemory}
use Rattle.job_text.specs.declared.job.Job.{Job}
use Rattle.job_lines.specs.Lines.{lines}
use Rattle.job_lines.specs.Says.{Said}
use Rattle.job_text.specs.States.{State, after}
use Rattle.job_text.specs.Rules.{broken}
use Rattle.job_text.specs.Jobs.{JobValue, JobBreaks}
use Rattle.job_text.specs.Verdicts.{Fault, verdict_from}
use Rattle.job_text.specs.Views.{job_value}

-- a fault is that of the definition; want of memory says nothing
abbrev pub Fails : {A : Type 0} → JobFault → Result A Fault → Type 0
Fails (Rule line rule) given = given ≡ Err (record { line = line; rule = rule })
Fails NoMemory given = Unit {0}

-- a line was taken where it breaks no rule, and else the least that it breaks is told
abbrev pub Hears : Bool → Said → State → Result (Option ℕ) AllocError → State → Type 0
Hears prep said old (Ok None) new = (broken prep old said ≡ None) × (new ≡ after said old)
Hears prep said old (Ok (Some rule)) new = broken prep old said ≡ Some rule
Hears prep said old (Err e) new = Unit {0}

-- all lines were taken, or the first fault is told
abbrev pub Reads : Bool → List ℕ → State → Result (Unit {0}) JobFault → State → Type 0
Reads prep text old (Ok u) new = verdict_from prep 1 (lines text) old ≡ Ok new
Reads prep text old (Err f) new = Fails f (verdict_from prep 1 (lines text) old)

-- the job or the fault is that of the definition
abbrev pub Answers : Result Job JobFault → Result JobValue Fault → Type 0
Answers (Ok job) given = given ≡ Ok (job_value job)
Answers (Err f) given = Fails f given

-- the text breaks this rule first at this line
abbrev pub IsFault : List ℕ → Bool → JobFault → Type 0
IsFault bytes prep (Rule line rule) = JobBreaks bytes prep line rule
IsFault bytes prep NoMemory = Unit {0}

-- the answer is this job, unless memory is wanting
abbrev pub GivesJob : Result Job JobFault → JobValue → Type 0
GivesJob (Ok given) job = job_value given ≡ job
GivesJob (Err NoMemory) job = Unit {0}
GivesJob (Err (Rule line rule)) job = ⊥

-- the answer is this fault, unless memory is wanting
abbrev pub GivesFault : Result Job JobFault → ℕ → ℕ → Type 0
GivesFault (Ok given) line rule = ⊥
GivesFault (Err NoMemory) line rule = Unit {0}
GivesFault (Err (Rule l r)) line rule = (l ≡ line) × (r ≡ rule)
