-- What a job text is: either a job, or a text of which one line is the first that breaks a rule.
use Rattle.std.specs.Prelude.{◌≡◌, ℕ, ◌+◌, Bool, List, ◌∷◌, ◌++◌, length, Option, None, Some}
use Rattle.job_lines.specs.declared.settings.Setting.TheVariants.{Memory, Quantum, Turns}
use Rattle.job_lines.specs.Lines.{lines}
use Rattle.job_lines.specs.Settings.{value_of}
use Rattle.job_lines.specs.Says.{Said, end_of_text, said_at}
use Rattle.job_text.specs.States.{TextValue, SeatValue, State, start, after_all}
use Rattle.job_text.specs.Rules.{broken}

-- a job: its settings, programs and sessions
pub record JobValue : Type 0 where
  pub memory : ℕ
  pub quantum : ℕ
  pub turns : ℕ
  pub stats : Bool
  pub programs : List TextValue
  pub sessions : List SeatValue

-- the job that all lines say
abbrev pub job_of : State → JobValue
job_of s = record {
  memory = value_of Memory s.settings;
  quantum = value_of Quantum s.settings;
  turns = value_of Turns s.settings;
  stats = s.stats;
  programs = s.programs;
  sessions = s.sessions;
}

-- what a line says behind others
abbrev pub said_behind : List (List ℕ) → List ℕ → Said
said_behind before line = said_at (after_all before start).place line

-- the least rule that a line breaks behind others, and that the text breaks where no line follows them
abbrev pub broken_at : Bool → List (List ℕ) → List ℕ → Option ℕ
broken_at prep before line = broken prep (after_all before start) (said_behind before line)

abbrev pub broken_at_end : Bool → List (List ℕ) → Option ℕ
broken_at_end prep before = broken prep (after_all before start) end_of_text

-- each of these lines keeps the rules, behind those before it
abbrev pub AreKept : Bool → List (List ℕ) → Type 0
AreKept prep ls = (before : List (List ℕ)) (line : List ℕ) (behind : List (List ℕ)) → ls ≡ before ++ line ∷ behind → broken_at prep before line ≡ None

-- the text is this job: each line and its end keep the rules, and it says so
pub record JobIs (bytes : List ℕ) (prep : Bool) (job : JobValue) : Type 0 where
  pub kept : AreKept prep (lines bytes)
  pub whole : broken_at_end prep (lines bytes) ≡ None
  pub says : job ≡ job_of (after_all (lines bytes) start)

-- The text breaks a rule first at a line, counted from 1, and no lesser rule there. Its end counts as the line behind the last.
pub data JobBreaks (bytes : List ℕ) (prep : Bool) (number rule : ℕ) : Type 0 where
  at_line : (before : List (List ℕ)) (line : List ℕ) (behind : List (List ℕ)) → lines bytes ≡ before ++ line ∷ behind → number ≡ length before + 1
      → AreKept prep before → broken_at prep before line ≡ Some rule → JobBreaks bytes prep number rule
  at_end : number ≡ length (lines bytes) + 1 → AreKept prep (lines bytes) → broken_at_end prep (lines bytes) ≡ Some rule
      → JobBreaks bytes prep number rule
