-- Its list is performed.
use Rattle.spl_mains.proofs.MainLemmas.{any_body_follows}
use Rattle.spl_mains.proofs.laws.covered_bodies_follow.Goals as goal

pub returns : goal.returns
returns c = any_body_follows
