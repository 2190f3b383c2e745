-- By the reference that the operand is.
use Rattle.spl_operands.proofs.ReadLemmas.{elements_give}
use Rattle.spl_operands.proofs.laws.elements_simulate.Goals as goal

pub returns : goal.returns
returns c = elements_give
