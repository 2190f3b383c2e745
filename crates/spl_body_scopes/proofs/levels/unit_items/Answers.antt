-- No name stands outside the list or before it.
use Rattle.std.proofs.Common.{List, ◌++◌, map, ap, ◌∙◌}
use Rattle.spl_tree.specs.DeclarationTrees.{declarations}
use Rattle.spl_tree.specs.Spells.{declaration}
use Rattle.spl_sorts.specs.spl_meaning.Names.{Names, find, nothing_declared}
use Rattle.spl_sorts.specs.Tables.{table_of}
use Rattle.spl_places.specs.declared.data.Datum as code
use Rattle.spl_places.specs.ListedData.{datum_of, list_data}
use Rattle.spl_body_scopes.proofs.levels.unit_items.Goals as goal

pub returns : goal.returns
returns c =
    let ds = declarations (map declaration c.args.list.now) in
    let outer = find (table_of c.nothing-outer.result) in
    let here = find (table_of c.nothing-here.result) in
    c.in_ok-declarations.ensures.items
    ∙ ap (λ (es : List code.Datum). map datum_of es ++ list_data outer here ds) c.new-items.ensures.items
    ∙ ap (λ (o : Names). list_data o here ds) c.nothing-outer.ensures ∙ ap (λ (h : Names). list_data nothing_declared h ds) c.nothing-here.ensures
