-- By the rows of their instructions.
use Rattle.spl_doubles.proofs.SignLemmas.{signs_give}
use Rattle.spl_doubles.proofs.laws.signs_simulate.Goals as goal

pub returns : goal.returns
returns c = signs_give
