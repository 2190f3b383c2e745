-- A list of one statement, which takes no jump.
use Rattle.spl_mains.proofs.InnerLemmas.{inner_follows}
use Rattle.spl_mains.proofs.laws.covered_inners_follow.Goals as goal

pub returns : goal.returns
returns c = inner_follows
