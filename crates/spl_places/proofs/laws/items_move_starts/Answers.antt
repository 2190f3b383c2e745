-- Each by induction along the items.
use Rattle.spl_places.proofs.PlaceWalks.{next_own, next_own_arrays, next_here, next_here_arrays}
use Rattle.spl_places.proofs.laws.items_move_starts.Goals as goal

pub returns : goal.returns
returns c = record { own = next_own; own_arrays = next_own_arrays; here = next_here; here_arrays = next_here_arrays }
