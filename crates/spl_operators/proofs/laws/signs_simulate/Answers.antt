-- By the sign and the kind.
use Rattle.spl_operators.proofs.SingleLemmas.{signs}
use Rattle.spl_operators.proofs.laws.signs_simulate.Goals as goal

pub returns : goal.returns
returns c = signs
