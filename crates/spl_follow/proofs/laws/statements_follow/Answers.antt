-- What the others leave is measured from the first one's beginning.
use Rattle.spl_follow.proofs.PartLemmas.{statements_follow}
use Rattle.spl_follow.proofs.laws.statements_follow.Goals as goal

pub returns : goal.returns
returns c = statements_follow
