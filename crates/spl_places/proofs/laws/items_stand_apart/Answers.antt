-- Each by induction along the list.
use Rattle.spl_places.proofs.ApartLaws.{place_found, sort_found, within, apart}
use Rattle.spl_places.proofs.laws.items_stand_apart.Goals as goal

pub returns : goal.returns
returns c = record { place = place_found; sort = sort_found; within = within; apart = apart }
