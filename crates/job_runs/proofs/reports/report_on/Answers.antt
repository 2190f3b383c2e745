-- The points are those of the world that the monitor stands for.
use Rattle.std.proofs.Common.{List, map, ap, ◌∙◌}
use Rattle.job_text.specs.Views.{text_value}
use Rattle.job_report.specs.Reports.{reported}
use Rattle.mpe_turns.specs.declared.session.Session.{Session}
use Rattle.mpe_turns.specs.Monitors.{codes_in, world_of}
use Rattle.mpe_turns.specs.Stands.{runs_of}
use Rattle.job_runs.specs.Reported.{names_of, reported_of}
use Rattle.job_runs.proofs.PointLemmas.{report_so}
use Rattle.job_runs.proofs.reports.report_on.Goals as goal

pub returns : goal.returns
returns c =
    let names = names_of (map text_value c.args.programs.now) in
    let m = c.args.monitor.now in
    report_so names c.args.stats (world_of m) c.report.result (map reported c.in_ok-points.points.items) c.counted.result
    (c.in_ok-points.ensures (codes_in m) ∙ ap (λ (ss : List Session). map (reported_of names) (runs_of (codes_in m) ss)) c.deref.ensures.value) c.counted.ensures c.report.ensures
