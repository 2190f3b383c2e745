-- The parameters are the first names of the list.
use Rattle.std.proofs.Common.{List, ◌++◌, map, ap, ◌∙◌}
use Rattle.std.proofs.lemmas.Result.{on_ok_weaker}
use Rattle.spl_tree.specs.DeclarationTrees.{declarations}
use Rattle.spl_tree.specs.Spells.{declaration}
use Rattle.spl_sound.specs.spl_meaning.Names as n
use Rattle.spl_sound.specs.spl_meaning.Names.{Names, find, parameters}
use Rattle.spl_sorts.specs.declared.profiles.Formal.{Formal}
use Rattle.spl_sorts.specs.Profiles.{formal_of}
use Rattle.spl_sorts.specs.Tables.{table_of}
use Rattle.spl_places.specs.ListedData.{datum_of, list_data}
use Rattle.spl_areas.proofs.gather.list_items.Goals as goal

pub returns : goal.returns
returns c =
    let outer = find (table_of c.args.outer.now) in
    let ds = declarations (map declaration c.args.list.now) in
    let formals = ap (λ (fs : List Formal). map formal_of fs) c.deref.ensures.value ∙ c.in_ok-formals.ensures in
    let names = c.in_ok-here.ensures ∙ ap (λ (fs : List n.Formal). find (parameters fs)) formals in
    on_ok_weaker c.declarations.result
    (λ e. e ∙ ap (λ (here : Names). map datum_of c.args.all.now.items ++ list_data outer here ds) names)
    c.declarations.ensures.items
