-- By the rows of their instructions.
use Rattle.spl_doubles.proofs.DoubleLemmas.{constants_give}
use Rattle.spl_doubles.proofs.laws.constants_simulate.Goals as goal

pub returns : goal.returns
returns c = constants_give
