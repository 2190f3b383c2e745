-- By the place.
use Rattle.spl_tops.proofs.StoreLemmas.{own_words_put, doubles_put}
use Rattle.spl_tops.proofs.CellLemmas.{cells_put}
use Rattle.spl_tops.proofs.laws.places_seen_are_stored.Goals as goal

pub returns : goal.returns
returns c = record { words = own_words_put; doubles = doubles_put; cells = cells_put }
