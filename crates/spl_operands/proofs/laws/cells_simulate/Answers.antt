-- By the reference that the operand is.
use Rattle.spl_operands.proofs.ReadLemmas.{cells_give}
use Rattle.spl_operands.proofs.laws.cells_simulate.Goals as goal

pub returns : goal.returns
returns c = cells_give
