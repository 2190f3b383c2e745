-- Address by address.
use Rattle.spl_bounds.proofs.Data.{initial_data}
use Rattle.spl_bounds.proofs.laws.data_words_are_initial.Goals as goal

pub returns : goal.returns
returns c = initial_data
