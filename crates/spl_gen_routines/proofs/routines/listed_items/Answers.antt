-- The names before the declarations are those of the heading's parameters.
use Rattle.std.proofs.Common.{map}
use Rattle.spl_tree.specs.DeclarationTrees.{declarations}
use Rattle.spl_tree.specs.Spells.{declaration, heading_tree}
use Rattle.spl_sorts.specs.spl_meaning.Names.{find}
use Rattle.spl_sorts.specs.Tables.{table_of}
use Rattle.spl_statement_scopes.proofs.spl_body_scopes_proofs.LevelLemmas.{first_named, items_listed}
use Rattle.spl_gen_routines.proofs.routines.listed_items.Goals as goal

pub returns : goal.returns
returns c =
    let h = heading_tree c.args.heading.now in
    let ds = declarations (map declaration c.args.list.now) in
    let outer = find (table_of c.args.outer.now) in
    let names = find (table_of c.in_ok-names.names) in
    let first = first_named names c.deref.result.now c.in_ok-formals.formals.items h c.in_ok-names.ensures c.deref.ensures.value c.in_ok-formals.ensures in
    items_listed outer names h ds c.declarations.new.all.items c.new-items.result.items c.in_ok-declarations.ensures.items c.new-items.ensures.items first
