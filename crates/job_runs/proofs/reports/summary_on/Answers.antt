-- The points are those of the world that the monitor stands for.
use Rattle.std.proofs.Common.{List, map, ap, ◌∙◌}
use Rattle.job_text.specs.Views.{text_value}
use Rattle.job_report.specs.Reports.{reported}
use Rattle.mpe_turns.specs.declared.session.Session.{Session}
use Rattle.mpe_turns.specs.Monitors.{codes_in, world_of}
use Rattle.mpe_turns.specs.Stands.{runs_of}
use Rattle.job_runs.specs.Reported.{names_of, reported_of}
use Rattle.job_runs.proofs.PointLemmas.{summary_so}
use Rattle.job_runs.proofs.reports.summary_on.Goals as goal

pub returns : goal.returns
returns c =
    let names = names_of (map text_value c.args.programs.now) in
    let m = c.args.monitor.now in
    summary_so c.args.n c.args.bytes names (world_of m) c.summary.result (map reported c.in_ok-points.points.items)
    (c.in_ok-points.ensures (codes_in m) ∙ ap (λ (ss : List Session). map (reported_of names) (runs_of (codes_in m) ss)) c.deref.ensures.value) c.summary.ensures
