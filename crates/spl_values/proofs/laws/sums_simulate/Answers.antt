-- By the class of the operands and by the operator.
use Rattle.spl_values.proofs.SumLemmas.{sums_give}
use Rattle.spl_values.proofs.laws.sums_simulate.Goals as goal

pub returns : goal.returns
returns c = sums_give
