-- The second value's words stand behind the first's.
use Rattle.spl_follow.proofs.PartLemmas.{values_follow}
use Rattle.spl_follow.proofs.laws.values_follow.Goals as goal

pub returns : goal.returns
returns c = values_follow
