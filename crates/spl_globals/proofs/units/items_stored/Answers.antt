-- No name stands before the list, nor outside it.
use Rattle.std.proofs.Common.{false, map, ap, ◌∙◌}
use Rattle.std.proofs.lemmas.Result.{on_ok_weaker}
use Rattle.spl_tree.specs.DeclarationTrees.{declarations}
use Rattle.spl_tree.specs.Spells.{declaration}
use Rattle.spl_sorts.specs.spl_meaning.Names.{Names, find, nothing_declared}
use Rattle.spl_sorts.specs.Tables.{table_of}
use Rattle.spl_initials.specs.spl_places.declared.places.Area.TheVariants as area
use Rattle.spl_initials.specs.spl_places.declared.places.Starts.{Starts}
use Rattle.spl_initials.specs.spl_places.ListedData.{datum_of}
use Rattle.spl_initials.specs.Memory.{memory_of}
use Rattle.spl_globals.specs.Stored.{list_stored, global_starts}
use Rattle.spl_globals.proofs.units.items_stored.Goals as goal

pub returns : goal.returns
returns c =
    let p = c.args.pass in
    let items = map datum_of c.args.items.now in
    let ds = declarations (map declaration c.args.list.now) in
    let mem = memory_of c.args.words.now in
    let starts = c.global_starts.result in
    on_ok_weaker c.list_stored.result
    (λ e. e
    ∙ ap (λ (s : Starts). list_stored p false area.Globals s (find (table_of c.nothing-outer.result)) (find (table_of c.nothing-here.result)) items ds mem) c.global_starts.ensures
    ∙ ap (λ (o : Names). list_stored p false area.Globals (global_starts c.args.at) o (find (table_of c.nothing-here.result)) items ds mem) c.nothing-outer.ensures
    ∙ ap (λ (h : Names). list_stored p false area.Globals (global_starts c.args.at) nothing_declared h items ds mem) c.nothing-here.ensures)
    c.list_stored.ensures
