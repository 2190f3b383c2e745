-- Before the first item.
use Rattle.std.proofs.Common.{map, refl}
use Rattle.spl_sorts.specs.spl_meaning.Places.{places_from, arrays_from}
use Rattle.spl_places.specs.ListedData.{datum_of}
use Rattle.spl_spots.specs.NameMaps.{entries_of}
use Rattle.spl_places.specs.Held.{named}
use Rattle.spl_places.specs.Spots.{spot_of, array_of, place_in}
use Rattle.spl_spots.proofs.NameMapLemmas.{behind_empty}
use Rattle.spl_places.proofs.places.list_places.Goals as goal

pub loop-datum-init : goal.loop-datum-init
loop-datum-init c =
    let t = map named (map datum_of c.args.list.now) in
    let at = c.args.at in
    record {
      places = behind_empty spot_of (entries_of c.new-places.result) (places_from (place_in c.args.area) at.own at.here t) c.new-places.ensures;
      arrays = behind_empty array_of (entries_of c.new-arrays.result) (arrays_from (place_in c.args.area) at.own_arrays at.here_arrays t) c.new-arrays.ensures;
      next = refl;
    }
