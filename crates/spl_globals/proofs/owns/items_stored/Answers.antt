-- The list starts behind a marker, and its first names are the parameters.
use Rattle.std.proofs.Common.{List, true, map, ap, ◌∙◌}
use Rattle.std.proofs.lemmas.Result.{on_ok_weaker}
use Rattle.spl_tree.specs.DeclarationTrees.{declarations}
use Rattle.spl_tree.specs.Spells.{declaration, heading_tree}
use Rattle.spl_sorts.specs.spl_meaning.Names.{Names, find, parameters, formals_of}
use Rattle.spl_sorts.specs.Tables.{table_of}
use Rattle.spl_initials.specs.spl_places.declared.places.Area.TheVariants as area
use Rattle.spl_initials.specs.spl_places.declared.places.Starts.{Starts}
use Rattle.spl_initials.specs.spl_places.ListedData.{Datum, datum_of}
use Rattle.spl_initials.specs.spl_places.Spots.{frame_starts}
use Rattle.spl_initials.specs.Memory.{memory_of}
use Rattle.spl_globals.specs.Stored.{list_stored}
use Rattle.spl_globals.proofs.owns.items_stored.Goals as goal

pub returns : goal.returns
returns c =
    let p = c.args.pass in
    let outer = find (table_of c.args.outer.now) in
    let first = find (parameters (formals_of (heading_tree c.args.heading.now))) in
    let items = map datum_of c.args.items.now in
    let ds = declarations (map declaration c.args.list.now) in
    let mem = memory_of c.args.words.now in
    on_ok_weaker c.list_stored.result
    (λ e. e
    ∙ ap (λ (here : Names). list_stored p true area.Frame c.in_ok-frame_starts.field-0 outer here items ds mem) c.in_ok-here.ensures
    ∙ ap (λ (s : Starts). list_stored p true area.Frame s outer first items ds mem) c.in_ok-frame_starts.ensures
    ∙ ap (λ (xs : List Datum). list_stored p true area.Frame (frame_starts c.args.at.own c.args.at.own_arrays xs) outer first xs ds mem) c.requires)
    c.list_stored.ensures
