-- One declaration more.
use Rattle.std.proofs.Common.{◌+◌, ap, sym, ◌∙◌, map, drop}
use Rattle.spl_tree.specs.DeclarationTrees.{declarations}
use Rattle.spl_tree.specs.Spells.{declaration}
use Rattle.spl_sorts.specs.spl_meaning.Names.{Names, find}
use Rattle.spl_gen_expr.specs.spl_found.OwnNames.{behind_declarations}
use Rattle.spl_sorts.specs.Tables.{table_of}
use Rattle.spl_initials.proofs.spl_places_proofs.DataWalks.{declarations_step}
use Rattle.spl_initials.specs.Cells.{found_in}
use Rattle.spl_gen_body.proofs.InitialWalks.{declaration_step, declaration_end}
use Rattle.spl_gen_body.proofs.initials.set_initials.Goals as goal

pub loop-d-preserved : goal.loop-d-preserved
loop-d-preserved c =
    let outer = find (table_of c.args.outer.now) in
    let here = find (table_of c.loop-d.here) in
    let f = found_in c.args.list.now in
    let list = c.args.declarations.now in
    let i = c.loop-d.d-index in
    let x = c.d-item.result in
    let names = c.in_ok-set_declaration.ensures.names in
    record {
      code = λ e rest. c.loop-d.invariant.code e
          (declaration_step outer here _ f list i x c.loop-d-test.true c.d-item.is names c.in_ok-set_declaration.ensures.code rest);
      names = ap (λ (t : Names). behind_declarations outer t (declarations (map declaration (drop (i + 1) list)))) names
          ∙ sym (declarations_step outer here list i x c.loop-d-test.true c.d-item.is) ∙ c.loop-d.invariant.names;
    }

-- no declaration is left
pub returns-clause-code : goal.returns-clause-code
returns-clause-code c =
    c.loop-d.invariant.code c.loop-d.code
    (declaration_end (find (table_of c.args.outer.now)) (find (table_of c.loop-d.here)) (found_in c.args.list.now) c.args.declarations.now c.loop-d.d-index c.loop-d.code c.loop-d-test.false)
