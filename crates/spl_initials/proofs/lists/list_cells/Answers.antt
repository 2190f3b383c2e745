-- The places are those of the items.
use Rattle.std.proofs.Common.{map, ap, ◌∙◌}
use Rattle.spl_sorts.specs.spl_meaning.Places as places
use Rattle.spl_sorts.specs.spl_meaning.Runs.{global_address}
use Rattle.spl_places.specs.ListedData.{datum_of}
use Rattle.spl_places.specs.Spots.{place_in}
use Rattle.spl_initials.specs.Memory.{memory_of}
use Rattle.spl_initials.specs.Cells.{Found, cells_by}
use Rattle.spl_initials.specs.Lists.{found_of, starts_of}
use Rattle.spl_initials.proofs.FoundLemmas.{found_is}
use Rattle.spl_initials.proofs.lists.list_cells.Goals as goal

pub returns-clause-words : goal.returns-clause-words
returns-clause-words c =
    let ds = map datum_of c.args.items.now in
    let f = found_of (place_in c.args.area) (starts_of c.args.at) ds in
    c.put_cells.ensures
    ∙ ap (λ (g : Found). places.put_cells global_address (cells_by c.args.own g ds) (memory_of c.args.words.now))
    (found_is c.in_ok-list.list f c.in_ok-list.ensures.places c.in_ok-list.ensures.arrays)
