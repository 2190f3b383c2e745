-- Its list is performed.
use Rattle.spl_mains.proofs.MainLemmas.{bodies_follow}
use Rattle.spl_mains.proofs.laws.covered_main_bodies_follow.Goals as goal

pub returns : goal.returns
returns c = bodies_follow
