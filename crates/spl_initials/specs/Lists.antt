-- Places and arrays of a list by its items.
use Rattle.std.specs.Prelude.{ℕ, List, map}
use Rattle.spl_sorts.specs.spl_meaning.Names.{find}
use Rattle.spl_sorts.specs.spl_meaning.Places.{Place, Starts, places_from, arrays_from}
use Rattle.spl_places.specs.ListedData.{Datum}
use Rattle.spl_places.specs.Held.{named}
use Rattle.spl_places.specs.declared.places.Starts as code
use Rattle.spl_initials.specs.Cells.{Found}

-- what names have in a list of these items, which starts there
abbrev pub found_of : (ℕ → Place) → Starts → List Datum → Found
found_of at starts ds = record {
  place = find (places_from at starts.own starts.here (map named ds));
  array = find (arrays_from at starts.own_arrays starts.here_arrays (map named ds));
}

-- where a list starts, as the definitions have it
abbrev pub starts_of : code.Starts → Starts
starts_of s = record { own = s.own; own_arrays = s.own_arrays; here = s.here; here_arrays = s.here_arrays }
