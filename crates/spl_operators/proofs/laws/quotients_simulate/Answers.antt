-- By the class of the operands, and by which word is kept.
use Rattle.spl_operators.proofs.OperandLemmas.{quotients}
use Rattle.spl_operators.proofs.laws.quotients_simulate.Goals as goal

pub returns : goal.returns
returns c = quotients
