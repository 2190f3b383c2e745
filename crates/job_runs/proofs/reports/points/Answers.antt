-- Session by session.
use Rattle.std.proofs.Common.{map}
use Rattle.job_text.specs.Views.{text_value}
use Rattle.job_runs.specs.Reported.{names_of}
use Rattle.job_runs.proofs.PointLemmas.{points_step}
use Rattle.job_runs.proofs.reports.points.Goals as goal

pub loop-session-preserved : goal.loop-session-preserved
loop-session-preserved c = λ codes.
    points_step (names_of (map text_value c.args.programs.now)) codes c.args.sessions.now c.loop-session.session-index c.session-item.result c.loop-session.points.items
    c.push.new.self.items c.in_ok-point.point c.loop-session-test.true c.session-item.is c.in_ok-push.ensures.items (c.in_ok-point.ensures codes)
    (c.loop-session.invariant codes)
