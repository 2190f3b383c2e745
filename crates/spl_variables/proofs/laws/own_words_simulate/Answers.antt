-- By the reference that a variable is.
use Rattle.spl_variables.proofs.OwnLemmas.{own_words_give}
use Rattle.spl_variables.proofs.laws.own_words_simulate.Goals as goal

pub returns : goal.returns
returns c = own_words_give
