-- The report of a job: for each session its line, the bytes that it printed, and how it ended; with statistics, what was counted too.
use Rattle.std.specs.Prelude.{ℕ, ◌+◌, ◌-◌, ◌==◌, ◌||◌, Bool, true, false, if◌then◌else◌, List, [], ◌∷◌, ◌++◌, length, slice_index, Option, Some, None, codes}
use Rattle.std.specs.Fmt.{decimal}
use Rattle.hp_word.specs.declared.endings.Ending.{Ending}
use Rattle.job_report.specs.declared.point.Point.{Point}
use Rattle.job_report.specs.Lines.{line}
use Rattle.job_report.specs.Endings.{end_pieces}

-- a session as it is reported: its program's name, what it printed, how it ended, and its counts
pub record Reported : Type 0 where
  pub name : List ℕ
  pub printed : List ℕ
  pub ending : Ending
  pub steps : ℕ
  pub fills : ℕ
  pub spills : ℕ

-- the session that a point stands for
abbrev pub reported : Point → Reported
reported p = record {
  name = p.name.text.items;
  printed = p.printed.bytes.items;
  ending = p.ending;
  steps = p.steps;
  fills = p.fills;
  spills = p.spills;
}

-- a line feed behind what was printed, where that is not empty and ends in none
abbrev pub line_end : List ℕ → List ℕ
line_end printed = if (length printed == 0) || (slice_index printed (length printed - 1) == 10) then [] else 10 ∷ []

-- the line of session i, with the number of bytes that it printed
abbrev pub session_line : ℕ → Reported → List ℕ
session_line i s = line (codes "SESSION " ∷ decimal i ∷ codes " " ∷ s.name ∷ codes " BYTES " ∷ decimal (length s.printed) ∷ [])

-- how it ended
abbrev pub end_line : ℕ → Reported → List ℕ
end_line i s = line (codes "END " ∷ decimal i ∷ codes " " ∷ end_pieces s.ending)

-- what was counted of it
abbrev pub counts_line : ℕ → Reported → List ℕ
counts_line i s =
    line (codes "STATS " ∷ decimal i ∷ codes " STEPS " ∷ decimal s.steps ∷ codes " FILLS " ∷ decimal s.fills ∷ codes " SPILLS " ∷ decimal s.spills ∷ [])

-- all of session i
unfoldable pub session_text : Bool → ℕ → Reported → List ℕ
session_text statistics i s =
    session_line i s ++ s.printed ++ line_end s.printed ++ end_line i s ++ (if statistics then counts_line i s else [])

-- the sessions in order, numbered from i
abbrev pub sessions_text : Bool → ℕ → List Reported → List ℕ
sessions_text statistics i [] = []
sessions_text statistics i (s ∷ ss) = session_text statistics i s ++ sessions_text statistics (i + 1) ss

-- what was counted of all: the turns, and the loads of segments
abbrev pub totals_line : ℕ → ℕ → List ℕ
totals_line turns loads = line (codes "STATS TURNS " ∷ decimal turns ∷ codes " LOADS " ∷ decimal loads ∷ [])

-- the whole report, with statistics where turns and loads are given
unfoldable pub report_of : List Reported → Option (ℕ × ℕ) → List ℕ
report_of ss None = sessions_text false 1 ss
report_of ss (Some counted) = sessions_text true 1 ss ++ totals_line counted.0 counted.1

-- the first line of a summary: the number of the generated job, and the length of its text
abbrev pub generated_line : ℕ → ℕ → List ℕ
generated_line n bytes = line (codes "GEN " ∷ decimal n ∷ codes " BYTES " ∷ decimal bytes ∷ [])

-- the summary of a generated job: that line, and the sessions as they are reported without statistics
unfoldable pub summary_of : ℕ → ℕ → List Reported → List ℕ
summary_of n bytes ss = generated_line n bytes ++ sessions_text false 1 ss
