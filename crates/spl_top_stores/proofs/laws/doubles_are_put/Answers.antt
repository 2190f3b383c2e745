-- By the place.
use Rattle.spl_top_stores.proofs.PutLemmas.{double_cells_put, double_elements_put}
use Rattle.spl_top_stores.proofs.laws.doubles_are_put.Goals as goal

pub returns : goal.returns
returns c = record { cells = double_cells_put; elements = double_elements_put }
