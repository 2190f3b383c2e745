-- By the rows of their instructions.
use Rattle.spl_doubles.proofs.DoubleLemmas.{sums_give}
use Rattle.spl_doubles.proofs.laws.sums_simulate.Goals as goal

pub returns : goal.returns
returns c = sums_give
