-- A loop over items.
use Rattle.std.proofs.Common.{◌≡◌, map, drop}
use Rattle.spl_sorts.specs.spl_meaning.Names.{find}
use Rattle.spl_sorts.specs.spl_meaning.Places.{places_from}
use Rattle.spl_places.specs.ListedData.{datum_of}
use Rattle.spl_places.specs.NameMaps.{entries_of, shown, behind_table}
use Rattle.spl_places.specs.Held.{named}
use Rattle.spl_places.specs.Spots.{spot_of, place_in}
use Rattle.spl_body_scopes.proofs.places.item_places.Given as goal

-- the places so far and those from here on are all
abbrev pub invariant-loop-datum : goal.invariant-loop-datum
invariant-loop-datum l =
    behind_table (shown spot_of (find (entries_of l.places))) (places_from (place_in l.area) l.owned l.here (map named (map datum_of (drop l.datum-index l.items))))
    ≡ behind_table (shown spot_of (find (entries_of l.fn.places))) (places_from (place_in l.area) l.fn.own l.fn.first (map named (map datum_of l.items)))
