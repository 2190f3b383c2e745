-- The parameters are the first names of the list, and their places stand before those of the items.
use Rattle.std.proofs.Common.{ℕ, List, ◌+◌, ◌++◌, true, map, ap, ◌∙◌}
use Rattle.spl_tree.specs.DeclarationTrees.{declarations}
use Rattle.spl_tree.specs.Spells.{declaration, heading_tree}
use Rattle.spl_sorts.specs.spl_meaning.Names as n
use Rattle.spl_sorts.specs.spl_meaning.Names.{Names, Table, find, parameters, formals_of}
use Rattle.spl_sorts.specs.spl_meaning.Places.{above_base, below_base, item_words, places_from}
use Rattle.spl_sorts.specs.spl_meaning.Bodies.{marker_gap, parameter_places}
use Rattle.spl_places.specs.spl_found.OwnNames.{behind_declarations}
use Rattle.spl_sorts.specs.declared.profiles.Formal.{Formal}
use Rattle.spl_sorts.specs.Profiles.{formal_of}
use Rattle.spl_sorts.specs.Tables.{table_of}
use Rattle.spl_places.specs.declared.data.Datum as code
use Rattle.spl_places.specs.ListedData.{Datum, datum_of}
use Rattle.spl_places.specs.Counters.{total_words}
use Rattle.spl_places.specs.NameMaps.{entries_of, shown, behind_table}
use Rattle.spl_places.specs.Held.{named}
use Rattle.spl_places.specs.Spots.{spot_of}
use Rattle.spl_body_scopes.specs.Levels.{Spots, routine_level}
use Rattle.spl_body_scopes.proofs.LevelLemmas.{level_made, find_both, first_named, items_listed}
use Rattle.spl_body_scopes.proofs.levels.routine_level.Goals as goal

pub returns-clause-level : goal.returns-clause-level
returns-clause-level c =
    let h = heading_tree c.args.heading.now in
    let ds = declarations (map declaration c.args.list.now) in
    let outer = find (table_of c.args.outer.now) in
    let first = first_named (find (table_of c.in_ok-names.names)) c.deref.result.now c.in_ok-formals.formals.items h c.in_ok-names.ensures c.deref.ensures.value c.in_ok-formals.ensures in
    let items = items_listed outer (find (table_of c.in_ok-names.names)) h ds c.declarations.new.all.items c.new-items.result.items c.in_ok-declarations.ensures.items c.new-items.ensures.items first in
    let level = routine_level outer c.args.own h ds in
    let names = c.in_ok-declarations.ensures.names ∙ ap (λ (here : Names). behind_declarations outer here ds) first in
    let ps = ap (λ (fs : List Formal). map formal_of fs) c.deref-2.ensures.value ∙ c.in_ok-formals.ensures in
    let parameters = c.in_ok-places.ensures ∙ ap (λ (fs : List n.Formal). find (parameter_places below_base marker_gap fs)) ps in
    let t = places_from above_base c.args.own 1 (map named (map datum_of c.deref-3.result.now)) in
    let places =
    c.in_ok-item_places.ensures
    ∙ ap (λ (has : Spots). behind_table has t) parameters
    ∙ find_both (parameter_places below_base marker_gap (formals_of h)) t
    ∙ ap (λ (xs : List code.Datum). find (parameter_places below_base marker_gap (formals_of h) ++ places_from above_base c.args.own 1 (map named (map datum_of xs))))
    c.deref-3.ensures.value
    ∙ ap (λ (xs : List Datum). find (parameter_places below_base marker_gap (formals_of h) ++ places_from above_base c.args.own 1 (map named xs))) items in
    level_made (find (table_of c.declarations.new.here)) level.names (shown spot_of (find (entries_of c.item_places.new.places))) level.places names places

pub returns-clause-next : goal.returns-clause-next
returns-clause-next c =
    let h = heading_tree c.args.heading.now in
    let ds = declarations (map declaration c.args.list.now) in
    let outer = find (table_of c.args.outer.now) in
    let first = first_named (find (table_of c.in_ok-names.names)) c.deref.result.now c.in_ok-formals.formals.items h c.in_ok-names.ensures c.deref.ensures.value c.in_ok-formals.ensures in
    let items = items_listed outer (find (table_of c.in_ok-names.names)) h ds c.declarations.new.all.items c.new-items.result.items c.in_ok-declarations.ensures.items c.new-items.ensures.items first in
    c.in_ok-next.ensures
    ∙ ap (λ (w : ℕ). c.args.own + w)
    (c.in_ok-total.ensures ∙ ap (λ (xs : List code.Datum). total_words true item_words (map datum_of xs)) c.deref-4.ensures.value
    ∙ ap (λ (xs : List Datum). total_words true item_words xs) items)
