-- The first step pays for the room, the last one for the end.
use Rattle.spl_followed.proofs.MainLaws.{main_follows, framed_follow}
use Rattle.spl_followed.proofs.laws.main_bodies_follow.Goals as goal

pub returns-clause-run : goal.returns-clause-run
returns-clause-run c = main_follows

pub returns-clause-program : goal.returns-clause-program
returns-clause-program c = framed_follow c.sessions_open_as_runs.ensures
