-- The points so far are those of the sessions so far.
use Rattle.std.proofs.Common.{◌≡◌, ℕ, List, map, take}
use Rattle.job_text.specs.Views.{text_value}
use Rattle.job_report.specs.Reports.{reported}
use Rattle.mpe_turns.specs.Stands.{runs_of}
use Rattle.job_runs.specs.Reported.{names_of, reported_of}
use Rattle.job_runs.proofs.reports.points.Given as goal

abbrev pub invariant-loop-session : goal.invariant-loop-session
invariant-loop-session l =
    (codes : List (List (List ℕ))) → map reported l.points.items ≡ map (reported_of (names_of (map text_value l.programs))) (runs_of codes (take l.session-index l.sessions))
