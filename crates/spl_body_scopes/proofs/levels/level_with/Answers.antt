-- No names, and the places of all items.
use Rattle.std.proofs.Common.{map, ◌∙◌}
use Rattle.spl_sorts.specs.spl_meaning.Names.{find, nothing_declared}
use Rattle.spl_sorts.specs.spl_meaning.Places.{places_from, data_word}
use Rattle.spl_sorts.specs.Tables.{table_of}
use Rattle.spl_places.specs.ListedData.{datum_of}
use Rattle.spl_places.specs.NameMaps.{entries_of, shown}
use Rattle.spl_places.specs.Held.{named}
use Rattle.spl_places.specs.Spots.{spot_of}
use Rattle.spl_places.proofs.NameMapLemmas.{behind_empty}
use Rattle.spl_body_scopes.proofs.LevelLemmas.{level_made}
use Rattle.spl_body_scopes.proofs.levels.level_with.Goals as goal

pub returns : goal.returns
returns c =
    let t = places_from data_word 0 c.args.primary (map named (map datum_of c.args.items.now)) in
    let places = c.in_ok-item_places.ensures ∙ behind_empty spot_of (entries_of c.new-places.result) t c.new-places.ensures in
    level_made (find (table_of c.nothing.result)) nothing_declared (shown spot_of (find (entries_of c.item_places.new.places))) (find t)
    c.nothing.ensures places
