use Rattle.spl_depths.proofs.ReachLaws.{first_use}
use Rattle.spl_depths.proofs.laws.first_use_is_found.Goals as goal

-- along the tree, in the order of the definition
pub returns : goal.returns
returns c = first_use
