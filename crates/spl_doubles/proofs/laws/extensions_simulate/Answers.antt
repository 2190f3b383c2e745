-- By the rows of their instructions.
use Rattle.spl_doubles.proofs.DoubleLemmas.{extensions_give}
use Rattle.spl_doubles.proofs.laws.extensions_simulate.Goals as goal

pub returns : goal.returns
returns c = extensions_give
