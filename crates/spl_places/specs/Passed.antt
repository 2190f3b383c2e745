-- The limits that items pass, by lists of items.
use Rattle.std.specs.Prelude.{◌+◌, true, false, List, ◌++◌}
use Rattle.spl_sorts.specs.spl_meaning.Places.{item_words, array_words}
use Rattle.spl_sorts.specs.spl_meaning.Limits.{Full, passing, most_primary, most_locals, most_data}
use Rattle.spl_places.specs.ListedData.{Datum}
use Rattle.spl_places.specs.Counters.{sizes, total_words}

-- Globals, and the items of procedures, of which those that are OWN count. 1: the primary area has more than 256 words. 4: both areas
-- have more than 32,000.
abbrev pub global_passed : List Datum → List Datum → List Full
global_passed globals locals =
    passing 1 most_primary 0 (sizes false item_words globals ++ sizes true item_words locals)
    ++ passing 4 most_data (total_words false item_words globals + total_words true item_words locals)
    (sizes false array_words globals ++ sizes true array_words locals)

-- The items of a procedure that are not OWN. 2: they have more than 127 words. 4: with their arrays' data they have more than 32,000.
abbrev pub local_passed : List Datum → List Full
local_passed locals =
    passing 2 most_locals 0 (sizes false item_words locals)
    ++ passing 4 most_data (total_words false item_words locals) (sizes false array_words locals)
