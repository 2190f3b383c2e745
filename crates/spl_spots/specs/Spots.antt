-- Places as the code has them.
use Rattle.spl_sorts.specs.spl_meaning.Places as p
use Rattle.spl_sorts.specs.spl_meaning.Places.{data_word, above_base, below_base, below_return}
use Rattle.spl_spots.specs.declared.places.Place as code
use Rattle.spl_spots.specs.declared.places.Place.TheVariants as place

-- a place
abbrev pub spot_of : code.Place → p.Place
spot_of (place.DataWord a) = data_word a
spot_of (place.AboveBase a) = above_base a
spot_of (place.BelowBase a) = below_base a
spot_of (place.BelowReturn a) = below_return a
