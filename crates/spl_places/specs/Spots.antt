-- Arrays as the code has them, and where the items of a list stand.
use Rattle.std.specs.Prelude.{ℕ, ◌+◌, true, false, nat_lt, if◌then◌else◌, List, [], ◌∷◌, Option}
use Rattle.spl_sorts.specs.spl_meaning.Names as n
use Rattle.spl_sorts.specs.spl_meaning.Names.{Sort, Table, find}
use Rattle.spl_sorts.specs.spl_meaning.Places as p
use Rattle.spl_sorts.specs.spl_meaning.Places.{data_word, above_base, is_own, item_words, array_words, where_own, place_of}
use Rattle.spl_spots.specs.spl_found.OwnNames.{with_name}
pub use Rattle.spl_spots.specs.Spots.{spot_of}
use Rattle.spl_places.specs.declared.places.Area.{Area}
use Rattle.spl_places.specs.declared.places.Area.TheVariants as area
use Rattle.spl_places.specs.declared.places.Array as array
use Rattle.spl_places.specs.declared.places.Starts as starts
use Rattle.spl_places.specs.ListedData.{Datum}
use Rattle.spl_places.specs.Counters.{total_words}

-- an array's data
abbrev pub array_of : array.Array → p.Array
array_of a = record { from = spot_of a.from; kind = a.kind; low = a.low }

-- where items that are not OWN stand
abbrev pub place_in : Area → ℕ → p.Place
place_in area.Globals a = data_word a
place_in area.Frame a = above_base a

-- what names have of places with an item more, which has words
abbrev pub and_place : (ℕ → p.Place) → ℕ → ℕ → (List ℕ → Option p.Place) → List ℕ → Sort → List ℕ → Option p.Place
and_place at owned here has x s = if nat_lt 0 (item_words s) then with_name has x (place_of at (is_own s) owned here) else has

-- what names have of arrays with an item more, where it is one
abbrev pub and_array : p.Place → (List ℕ → Option p.Array) → List ℕ → Sort → List ℕ → Option p.Array
and_array from has x (n.array k own low high) = with_name has x (record { from = from; kind = k; low = low })
and_array from has x _ = has

-- where the next item of a list stands, behind one
abbrev pub behind_item : starts.Starts → Sort → starts.Starts
behind_item at s = record {
  own = at.own + where_own true item_words s;
  own_arrays = at.own_arrays + where_own true array_words s;
  here = at.here + where_own false item_words s;
  here_arrays = at.here_arrays + where_own false array_words s;
}

-- and behind items
abbrev pub behind_data : starts.Starts → List Datum → starts.Starts
behind_data at [] = at
behind_data at (d ∷ ds) = behind_data (behind_item at d.sort) ds

-- where a procedure's list starts, as the definitions have it for a list of these items
abbrev pub frame_starts : ℕ → ℕ → List Datum → starts.Starts
frame_starts own own_arrays ds = record { own = own; own_arrays = own_arrays; here = 1; here_arrays = 1 + total_words false item_words ds }
