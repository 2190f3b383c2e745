-- The places are those of the items.
use Rattle.std.proofs.Common.{map, ap, ◌∙◌}
use Rattle.spl_tree.specs.DeclarationTrees.{declarations}
use Rattle.spl_tree.specs.Spells.{declaration}
use Rattle.spl_sorts.specs.spl_meaning.Names.{find}
use Rattle.spl_sorts.specs.spl_meaning.Places as places
use Rattle.spl_sorts.specs.spl_meaning.Runs.{global_address}
use Rattle.spl_sorts.specs.Tables.{table_of}
use Rattle.spl_places.specs.ListedData.{datum_of}
use Rattle.spl_places.specs.Spots.{place_in}
use Rattle.spl_initials.specs.Memory.{memory_of}
use Rattle.spl_initials.specs.Cells.{Found, initials_by}
use Rattle.spl_initials.specs.Lists.{found_of, starts_of}
use Rattle.spl_initials.proofs.FoundLemmas.{found_is}
use Rattle.spl_initials.proofs.lists.list_initials.Goals as goal

pub returns-clause-words : goal.returns-clause-words
returns-clause-words c =
    let ds = map datum_of c.args.items.now in
    let f = found_of (place_in c.args.area) (starts_of c.args.at) ds in
    c.in_ok-put_initials.ensures.words
    ∙ ap (λ (g : Found). places.put_initials global_address
    (initials_by c.args.own (find (table_of c.args.outer.now)) g (find (table_of c.args.here.now)) (declarations (map declaration c.args.declarations.now)))
    (memory_of c.args.words.now))
    (found_is c.in_ok-list.list f c.in_ok-list.ensures.places c.in_ok-list.ensures.arrays)
