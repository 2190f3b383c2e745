-- By the instructions that the word takes.
use Rattle.spl_values.proofs.ConstantLemmas.{constants_give}
use Rattle.spl_values.proofs.laws.constants_simulate.Goals as goal

pub returns : goal.returns
returns c = constants_give
