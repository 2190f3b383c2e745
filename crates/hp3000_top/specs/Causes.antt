-- What an input comes to, by the verb: a line that tells why it is refused; or what is made of it.
use Rattle.std.specs.Prelude.{ℕ, ◌≡◌, Bool, true, false, List, [], ◌∷◌, map, length, None, Some, Err}
use Rattle.job_report.specs.declared.refusals.FileRefusal.TheVariants as wrong
use Rattle.job_report.specs.Refusals.{job_refused, stack_refused, memory_refused, file_refused}
use Rattle.job_report.specs.Listings.{listing_of}
use Rattle.job_gen.specs.job_text.Jobs.{JobValue, JobIs, JobBreaks}
use Rattle.job_gen.specs.job_text.Views.{seat_value}
use Rattle.job_runs.specs.Reported.{names_of, report_on, summary_on}
use Rattle.hp_program.specs.declared.program.Program.{Program}
use Rattle.mpe_progfile.specs.declared.faults.FileFault.{FileFault}
use Rattle.mpe_progfile.specs.declared.faults.FileFault.TheVariants as file_fault
use Rattle.mpe_progfile.specs.Files.{IsFile}
use Rattle.mpe_progfile.specs.Reading.{read_file}
use Rattle.job_gen.specs.mpe_session.declared.seat.Seat.{Seat}
use Rattle.job_runs.specs.mpe_overlay.Codes.{codes_of}
use Rattle.job_runs.specs.mpe_worlds.Worlds.{World}
use Rattle.job_runs.specs.mpe_worlds.Opening.{opening}
use Rattle.job_runs.specs.mpe_worlds.Dispatch.{after}
use Rattle.job_runs.specs.mpe_turns.declared.fault.OpenFault.{OpenFault}
use Rattle.job_runs.specs.mpe_turns.declared.fault.OpenFault.TheVariants.{StackTooSmall, MemoryTooSmall, NoMemory}
use Rattle.job_runs.specs.mpe_turns.Opening.{refusal}
use Rattle.hp3000_top.specs.declared.verbs.Verb.{Verb}
use Rattle.hp3000_top.specs.declared.verbs.Verb.TheVariants as verb
use Rattle.hp3000_top.specs.Programs.{AreMade, FirstRefused, FirstFaulty}
use Rattle.hp3000_top.specs.Needs.{Need, AllNeed, first_small}

-- ---- a job to be run

-- the verbs that run a job: one that is read, or the generated one with its number
abbrev pub RunsJobs : Verb → Type 0
RunsJobs verb.Run = Unit {0}
RunsJobs (verb.Gen n) = Unit {0}
RunsJobs _ = ⊥

-- what is told of the world in which a job's turns leave its sessions, its text having so many bytes: the summary of a generated job; else the report
abbrev pub account_with : Verb → ℕ → List (List ℕ) → Bool → World → List ℕ
account_with (verb.Gen n) bytes names stats w = summary_on n bytes names w
account_with _ bytes names stats w = report_on names stats w

-- the same of a job and its text
abbrev pub account_of : Verb → List ℕ → JobValue → World → List ℕ
account_of v bytes job w = account_with v (length bytes) (names_of job.programs) job.stats w

-- the line for sessions that don't open; want of memory has none
abbrev pub open_line : OpenFault → List ℕ
open_line (StackTooSmall session need given) = stack_refused session need given
open_line (MemoryTooSmall need given) = memory_refused need given
open_line NoMemory = []

-- The bytes are this job, whose programs are made, and these are its seats.
pub record IsJob (bytes : List ℕ) (job : JobValue) (made : List Program) (seats : List Seat) : Type 0 where
  pub is : JobIs bytes false job
  pub are_made : AreMade job.programs made
  pub are_seats : map seat_value seats ≡ job.sessions

-- As a job to be run the bytes are refused by this line: a line of the job breaks a rule; a program is refused, of several the first; or the sessions
-- don't open.
pub data Cause (bytes : List ℕ) : List ℕ → Type 0 where
  lines : {l r : ℕ} → JobBreaks bytes false l r → Cause bytes (job_refused l r)
  program : {line : List ℕ} (job : JobValue) → JobIs bytes false job → FirstRefused job.programs line → Cause bytes line
  sessions : {f : OpenFault} (job : JobValue) (made : List Program) (seats : List Seat) → IsJob bytes job made seats
      → refusal job.memory seats made ≡ Some f → Cause bytes (open_line f)

-- The bytes are a job whose programs are made and whose sessions open, and its turns leave them in this world.
pub record Runs (bytes : List ℕ) (job : JobValue) (made : List Program) (w : World) : Type 0 where
  pub seats : List Seat
  pub is : IsJob bytes job made seats
  pub opens : refusal job.memory seats made ≡ None
  pub world : w ≡ after (codes_of made) job.quantum job.turns (opening job.memory seats made)

-- ---- a job to be prepared

-- The bytes are the text of this job, which has one program, and this is made of it.
pub record IsPrepared (bytes : List ℕ) (job : JobValue) (p : Program) : Type 0 where
  pub is : JobIs bytes true job
  pub is_made : AreMade job.programs (p ∷ [])

-- As a job to be prepared the bytes are refused by this line: a line of the job breaks a rule, or its program is refused.
pub data Unprepared (bytes : List ℕ) : List ℕ → Type 0 where
  broken : {l r : ℕ} → JobBreaks bytes true l r → Unprepared bytes (job_refused l r)
  unmade : {line : List ℕ} (job : JobValue) → JobIs bytes true job → FirstRefused job.programs line → Unprepared bytes line

-- ---- a program file

-- the line for a fault of a program file, at its byte; want of memory has none
abbrev pub file_line : FileFault → List ℕ
file_line (file_fault.Truncated byte) = file_refused wrong.Truncated byte
file_line (file_fault.BadHead byte) = file_refused wrong.Head byte
file_line (file_fault.BadSegment byte) = file_refused wrong.Segment byte
file_line (file_fault.Trailing byte) = file_refused wrong.Trailing byte
file_line (file_fault.BadLabel byte) = file_refused wrong.Label byte
file_line file_fault.NoMemory = []

-- as a program file the bytes are refused by this line, which tells their first fault
pub data Unlisted (bytes : List ℕ) : List ℕ → Type 0 where
  fault : {f : FileFault} → read_file bytes ≡ Err f → Unlisted bytes (file_line f)

-- ---- by the verb

-- the bytes are refused by this line
abbrev pub CauseOf : Verb → List ℕ → List ℕ → Type 0
CauseOf verb.Run bytes line = Cause bytes line
CauseOf verb.Prep bytes line = Unprepared bytes line
CauseOf verb.List bytes line = Unlisted bytes line
CauseOf (verb.Gen n) bytes line = Cause bytes line

-- The bytes come to this text: what is told of the world in which a job's turns leave its sessions; the file of the program that is made;
-- the listing of the program whose file they are; or the line that refuses them.
pub data ComesTo (bytes : List ℕ) : Verb → List ℕ → Type 0 where
  account : {v : Verb} (job : JobValue) (made : List Program) (w : World) → RunsJobs v → Runs bytes job made w → ComesTo bytes v (account_of v bytes job w)
  file : {text : List ℕ} (job : JobValue) (p : Program) → IsPrepared bytes job p → IsFile p text → ComesTo bytes verb.Prep text
  listing : (p : Program) → IsFile p bytes → ComesTo bytes verb.List (listing_of p)
  line : {v : Verb} {text : List ℕ} → CauseOf v bytes text → ComesTo bytes v text

-- ---- what is certain

-- As a job to be run the bytes can be refused by no other line than this: a line of the job breaks a rule; a program has a fault that is certain,
-- behind such as no line refuses; or no line refuses a program, and a stack is too small.
pub data SureCause (bytes : List ℕ) : List ℕ → Type 0 where
  lines : {l r : ℕ} → JobBreaks bytes false l r → SureCause bytes (job_refused l r)
  program : {line : List ℕ} (job : JobValue) → JobIs bytes false job → FirstFaulty job.programs line → SureCause bytes line
  stacks : {f : OpenFault} (job : JobValue) (needs : List Need) → JobIs bytes false job → AllNeed job.programs needs
      → first_small 0 needs job.sessions ≡ Some f → SureCause bytes (open_line f)

-- As a job to be prepared they can be refused by no other line than this.
pub data SurelyUnprepared (bytes : List ℕ) : List ℕ → Type 0 where
  broken : {l r : ℕ} → JobBreaks bytes true l r → SurelyUnprepared bytes (job_refused l r)
  unmade : {line : List ℕ} (job : JobValue) → JobIs bytes true job → FirstFaulty job.programs line → SurelyUnprepared bytes line

-- By the verb. What is wrong with a program file is always certain.
abbrev pub SureCauseOf : Verb → List ℕ → List ℕ → Type 0
SureCauseOf verb.Run bytes told = SureCause bytes told
SureCauseOf verb.Prep bytes told = SurelyUnprepared bytes told
SureCauseOf verb.List bytes told = Unlisted bytes told
SureCauseOf (verb.Gen n) bytes told = SureCause bytes told
