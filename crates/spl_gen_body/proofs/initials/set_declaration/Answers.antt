-- Behind the items names stand for what they do behind the declaration.
use Rattle.std.proofs.Common.{List, map, ap, sym, ◌∙◌}
use Rattle.spl_tree.specs.declared.declarations.Decl.{Decl}
use Rattle.spl_tree.specs.declared.declarations.Item.{Item}
use Rattle.spl_tree.specs.Spells.{item_tree, declaration}
use Rattle.spl_sorts.specs.spl_meaning.Names.{find}
use Rattle.spl_gen_expr.specs.spl_found.OwnNames.{behind_items, behind_declaration}
use Rattle.spl_sorts.specs.Tables.{table_of}
use Rattle.spl_operations.proofs.PutLemmas.{ok_then}
use Rattle.spl_gen_body.proofs.InitialLemmas.{data_tree}
use Rattle.spl_gen_body.proofs.initials.set_declaration.Goals as goal

pub returns-else-own-clause-names : goal.returns-else-own-clause-names
returns-else-own-clause-names c =
    let outer = find (table_of c.args.outer.now) in
    let here = find (table_of c.args.here.now) in
    ok_then c.set_items.result
    (λ p. p ∙ ap (λ (xs : List Item). behind_items outer c.in-Data.own c.in-Data.kind here (map item_tree xs)) c.deref.ensures.value
    ∙ sym (ap (λ (d : Decl). behind_declaration outer here (declaration d)) c.in-Data.is ∙ ap (behind_declaration outer here) (data_tree c.in-Data.own c.in-Data.kind c.in-Data.items)))
    c.set_items.ensures.names
