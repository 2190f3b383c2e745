-- By the value, and the store behind it.
use Rattle.spl_variables.proofs.OwnLemmas.{own_words_assigned}
use Rattle.spl_variables.proofs.laws.own_words_are_assigned.Goals as goal

pub returns : goal.returns
returns c = own_words_assigned
