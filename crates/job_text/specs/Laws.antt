-- The laws of job texts.
use Rattle.std.specs.Prelude.{◌≡◌, ℕ, ◌⊎◌, Bool, true, List, [], length}
use Rattle.job_text.specs.Jobs.{JobValue, JobIs, JobBreaks}
use Rattle.std.specs.List.{list_all}
use Rattle.job_text.specs.States.{SeatValue}
use Rattle.job_text.specs.Fits.{Each, JobFits}

-- each text is a job or breaks a rule first at a line
abbrev pub TextsAreRead : Type 0
TextsAreRead = (bytes : List ℕ) (prep : Bool) → ((job : JobValue) × JobIs bytes prep job) ⊎ ((line : ℕ) × (rule : ℕ) × JobBreaks bytes prep line rule)

-- never both
abbrev pub JobsBreakNothing : Type 0
JobsBreakNothing = (bytes : List ℕ) (prep : Bool) (job : JobValue) (line rule : ℕ) → JobIs bytes prep job → JobBreaks bytes prep line rule → ⊥

-- a text is at most one job
abbrev pub JobsAreUnique : Type 0
JobsAreUnique = (bytes : List ℕ) (prep : Bool) (a b : JobValue) → JobIs bytes prep a → JobIs bytes prep b → a ≡ b

-- and has at most one first fault
abbrev pub FaultsAreUnique : Type 0
FaultsAreUnique = (bytes : List ℕ) (prep : Bool) (l r m q : ℕ) → JobBreaks bytes prep l r → JobBreaks bytes prep m q → (l ≡ m) × (r ≡ q)

-- every job keeps within its limits
abbrev pub JobsFit : Type 0
JobsFit = (bytes : List ℕ) (prep : Bool) (job : JobValue) → JobIs bytes prep job → JobFits (length bytes) job

-- a job to be prepared has one program, and no session
abbrev pub PreparedJobsAreSingle : Type 0
PreparedJobsAreSingle = (bytes : List ℕ) (job : JobValue) → JobIs bytes true job → (length job.programs ≡ 1) × (job.sessions ≡ [])

-- What holds of each byte of a text holds of each that the job's sessions are to be typed.
abbrev pub LinesAreOfTexts : Type 0
LinesAreOfTexts = (bytes : List ℕ) (prep : Bool) (job : JobValue) → JobIs bytes prep job → (holds : ℕ → Bool) → list_all holds bytes ≡ true
    → Each (λ (s : SeatValue). list_all (λ line. list_all holds line) s.lines ≡ true) job.sessions
