-- By the class of the operands.
use Rattle.spl_operators.proofs.OperandLemmas.{products}
use Rattle.spl_operators.proofs.laws.products_simulate.Goals as goal

pub returns : goal.returns
returns c = products
