-- No name stands before the list, nor outside it.
use Rattle.std.proofs.Common.{List, ◌++◌, map, ap, ◌∙◌}
use Rattle.spl_tree.specs.DeclarationTrees.{declarations}
use Rattle.spl_tree.specs.Spells.{declaration}
use Rattle.spl_sorts.specs.spl_meaning.Names.{Names, find, nothing_declared}
use Rattle.spl_sorts.specs.Tables.{table_of}
use Rattle.spl_initials.specs.spl_places.declared.data.Datum as code
use Rattle.spl_initials.specs.spl_places.ListedData.{datum_of, list_data}
use Rattle.spl_globals.proofs.units.unit_data.Goals as goal

pub returns : goal.returns
returns c =
    let ds = declarations (map declaration c.args.list.now) in
    let outer = find (table_of c.nothing-outer.result) in
    let here = find (table_of c.nothing-here.result) in
    c.in_ok-declarations.ensures.items
    ∙ ap (λ (xs : List code.Datum). map datum_of xs ++ list_data outer here ds) c.new-all.ensures.items
    ∙ ap (λ (o : Names). list_data o here ds) c.nothing-outer.ensures
    ∙ ap (λ (h : Names). list_data nothing_declared h ds) c.nothing-here.ensures
