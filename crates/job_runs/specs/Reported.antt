-- What is reported of a world.
use Rattle.std.specs.Prelude.{ℕ, ◌≡◌, ◌<◌, slice_get, Bool, List, [], map, get_or, Option, None, Some, if◌then◌else◌}
use Rattle.job_text.specs.States.{TextValue}
use Rattle.job_report.specs.Reports.{Reported, report_of, summary_of}
use Rattle.mpe_turns.specs.mpe_worlds.Worlds.{Run, World}
use Rattle.mpe_turns.specs.declared.session.Session.{Session}

-- each session is of one of so many programs
abbrev pub AreOf : ℕ → List Session → Type 0
AreOf n sessions = (k : ℕ) (s : Session) → slice_get sessions k ≡ Some s → s.program < n

-- the names of programs
abbrev pub names_of : List TextValue → List (List ℕ)
names_of programs = map (λ p. p.name) programs

-- a session, under the name of its program among these
abbrev pub reported_of : List (List ℕ) → Run → Reported
reported_of names r = record {
  name = get_or names r.program [];
  printed = r.machine.printed;
  ending = r.machine.ending;
  steps = r.steps;
  fills = r.numbers.fills;
  spills = r.numbers.spills;
}

-- the turns and loads, where statistics are wanted
abbrev pub counted : Bool → World → Option (ℕ × ℕ)
counted stats w = if stats then Some (w.turns, w.loads) else None

-- the report of a world
unfoldable pub report_on : List (List ℕ) → Bool → World → List ℕ
report_on names stats w = report_of (map (reported_of names) w.runs) (counted stats w)

-- the summary of a world in which a generated job's turns left its sessions: that job's number, and the bytes of its text
unfoldable pub summary_on : ℕ → ℕ → List (List ℕ) → World → List ℕ
summary_on n bytes names w = summary_of n bytes (map (reported_of names) w.runs)
