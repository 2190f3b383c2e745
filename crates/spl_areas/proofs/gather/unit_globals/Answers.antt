-- No name is declared before or outside.
use Rattle.std.proofs.Common.{List, ◌++◌, map, ap, sym, ◌∙◌}
use Rattle.std.proofs.lemmas.Result.{on_ok_weaker}
use Rattle.spl_tree.specs.declared.declarations.Decl.{Decl}
use Rattle.spl_tree.specs.DeclarationTrees.{declarations}
use Rattle.spl_tree.specs.Spells.{declaration}
use Rattle.spl_sound.specs.spl_meaning.Names.{Names, find, nothing_declared}
use Rattle.spl_sorts.specs.Tables.{table_of}
use Rattle.spl_places.specs.ListedData.{Datum, datum_of, list_data}
use Rattle.spl_areas.proofs.GatherWalks.{globals_are}
use Rattle.spl_areas.proofs.gather.unit_globals.Goals as goal

pub returns : goal.returns
returns c =
    let old = map datum_of c.args.all.now.items in
    let here = find (table_of c.nothing-here.result) in
    on_ok_weaker c.declarations.result
    (λ e. e
    ∙ ap (λ (list : List Decl). old ++ list_data (find (table_of c.nothing-outer.result)) here (declarations (map declaration list))) c.deref.ensures.value
    ∙ ap (λ (outer : Names). old ++ list_data outer here (declarations (map declaration c.args.unit.now.items.items))) c.nothing-outer.ensures
    ∙ ap (λ (h : Names). old ++ list_data nothing_declared h (declarations (map declaration c.args.unit.now.items.items))) c.nothing-here.ensures
    ∙ ap (λ (xs : List Datum). old ++ xs) (sym (globals_are c.args.unit.now c.if-unit.false)))
    c.declarations.ensures.items
