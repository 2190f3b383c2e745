-- What names have in the places that are made of a list's items.
use Rattle.std.proofs.Common.{◌≡◌}
use Rattle.spl_places.specs.declared.places.ListPlaces.{ListPlaces}
use Rattle.spl_initials.specs.Cells.{Found, found_in}

pub found_is : (l : ListPlaces) (f : Found) → (found_in l).place ≡ f.place → (found_in l).array ≡ f.array → found_in l ≡ f
found_is l f place array i = record { place = place i; array = array i }
