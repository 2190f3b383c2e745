-- The parameters are the first names of the list.
use Rattle.std.proofs.Common.{List, ◌++◌, map, ap, ◌∙◌}
use Rattle.spl_tree.specs.DeclarationTrees.{declarations}
use Rattle.spl_tree.specs.Spells.{declaration}
use Rattle.spl_sound.specs.spl_meaning.Names as n
use Rattle.spl_sound.specs.spl_meaning.Names.{Names, find, parameters}
use Rattle.spl_sorts.specs.declared.profiles.Formal.{Formal}
use Rattle.spl_sorts.specs.Profiles.{formal_of}
use Rattle.spl_sorts.specs.Tables.{table_of}
use Rattle.spl_areas.specs.spl_found.OwnNames.{behind_declarations}
use Rattle.spl_areas.specs.spl_places.ListedData.{datum_of, list_data}
use Rattle.spl_limits.proofs.bodies.own_list.Goals as goal

pub returns-clause-items : goal.returns-clause-items
returns-clause-items c =
    let ds = declarations (map declaration c.args.list.now) in
    let formals = ap (λ (fs : List Formal). map formal_of fs) c.deref.ensures.value ∙ c.in_ok-formals.ensures in
    let names = c.in_ok-own.ensures ∙ ap (λ (fs : List n.Formal). find (parameters fs)) formals in
    c.in_ok-declarations.ensures.items ∙ ap (λ (here : Names). map datum_of c.args.all.now.items ++ list_data (find (table_of c.args.globals.now)) here ds) names

pub returns-clause-names : goal.returns-clause-names
returns-clause-names c =
    let ds = declarations (map declaration c.args.list.now) in
    let formals = ap (λ (fs : List Formal). map formal_of fs) c.deref.ensures.value ∙ c.in_ok-formals.ensures in
    let names = c.in_ok-own.ensures ∙ ap (λ (fs : List n.Formal). find (parameters fs)) formals in
    c.in_ok-declarations.ensures.names ∙ ap (λ (here : Names). behind_declarations (find (table_of c.args.globals.now)) here ds) names
