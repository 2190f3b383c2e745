use Rattle.std.proofs.Common.{◌≡◌, ◌+◌, ◌++◌, map, drop}
use Rattle.job_report.specs.Reports.{reported, sessions_text}
use Rattle.job_report.proofs.reports.push_sessions.Given as goal

-- what is told, with the sessions that are left, is all
abbrev pub invariant-loop-i : goal.invariant-loop-i
invariant-loop-i l =
    l.text.items ++ sessions_text l.statistics (l.i + 1) (map reported (drop l.i l.points)) ≡ l.initial.text.items ++ sessions_text l.statistics 1 (map reported l.points)
