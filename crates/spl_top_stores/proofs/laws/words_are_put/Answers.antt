-- By the place.
use Rattle.spl_top_stores.proofs.PutLemmas.{elements_put}
use Rattle.spl_top_stores.proofs.laws.words_are_put.Goals as goal

pub returns : goal.returns
returns c = elements_put
