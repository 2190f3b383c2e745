-- A loop over items.
use Rattle.std.proofs.Common.{◌≡◌, map, drop}
use Rattle.spl_sorts.specs.spl_meaning.Names.{find}
use Rattle.spl_sorts.specs.spl_meaning.Places.{places_from, arrays_from}
use Rattle.spl_places.specs.ListedData.{datum_of}
use Rattle.spl_spots.specs.NameMaps.{entries_of, shown, behind_table}
use Rattle.spl_places.specs.Held.{named}
use Rattle.spl_places.specs.Spots.{spot_of, array_of, place_in, behind_data}
use Rattle.spl_places.proofs.places.list_places.Given as goal

-- the places so far and those from here on are all, and so it is with arrays and with what is next
abbrev pub invariant-loop-datum : goal.invariant-loop-datum
invariant-loop-datum l = record {
  places : behind_table (shown spot_of (find (entries_of l.places))) (places_from (place_in l.area) l.next.own l.next.here (map named (map datum_of (drop l.datum-index l.list))))
      ≡ find (places_from (place_in l.area) l.fn.at.own l.fn.at.here (map named (map datum_of l.list)));
  arrays : behind_table (shown array_of (find (entries_of l.arrays))) (arrays_from (place_in l.area) l.next.own_arrays l.next.here_arrays (map named (map datum_of (drop l.datum-index l.list))))
      ≡ find (arrays_from (place_in l.area) l.fn.at.own_arrays l.fn.at.here_arrays (map named (map datum_of l.list)));
  next : behind_data l.next (map datum_of (drop l.datum-index l.list)) ≡ behind_data l.fn.at (map datum_of l.list);
}
