-- By its list: a parameter stands below the base, and an item that is not OWN above it.
use Rattle.spl_near_places.proofs.Split.{split_framed}
use Rattle.spl_near_places.proofs.laws.split_names_are_framed.Goals as goal

pub returns : goal.returns
returns c = split_framed
