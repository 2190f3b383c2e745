-- By the rows of their instructions.
use Rattle.spl_doubles.proofs.DoubleLemmas.{low_words_give}
use Rattle.spl_doubles.proofs.laws.low_words_simulate.Goals as goal

pub returns : goal.returns
returns c = low_words_give
