-- A text read from its front, line by line: the job that it is, or its first faulty line with the least rule that it breaks.
use Rattle.std.specs.Prelude.{ℕ, ◌+◌, Bool, List, [], ◌∷◌, Option, None, Some, Result, Ok, Err}
use Rattle.job_lines.specs.Lines.{lines}
use Rattle.job_lines.specs.Says.{end_of_text, said_at}
use Rattle.job_text.specs.States.{State, start, after}
use Rattle.job_text.specs.Rules.{broken}
use Rattle.job_text.specs.Jobs.{JobValue, job_of}

-- a line and a rule
pub record Fault : Type 0 where
  pub line : ℕ
  pub rule : ℕ

-- a broken rule is the fault of this line, and else it goes on
abbrev pub going_on : {A : Type 0} → ℕ → Option ℕ → Result A Fault → Result A Fault
going_on number (Some rule) rest = Err (record { line = number; rule = rule })
going_on number None rest = rest

-- the state behind lines and the end of the text, where the first line has this number
unfoldable pub verdict_from : Bool → ℕ → List (List ℕ) → State → Result State Fault
verdict_from prep number [] s = going_on number (broken prep s end_of_text) (Ok s)
verdict_from prep number (line ∷ ls) s =
    going_on number (broken prep s (said_at s.place line)) (verdict_from prep (number + 1) ls (after (said_at s.place line) s))

abbrev pub with_job : Result State Fault → Result JobValue Fault
with_job (Ok s) = Ok (job_of s)
with_job (Err f) = Err f

-- what comes of a text
unfoldable pub verdict : Bool → List ℕ → Result JobValue Fault
verdict prep bytes = with_job (verdict_from prep 1 (lines bytes) start)
