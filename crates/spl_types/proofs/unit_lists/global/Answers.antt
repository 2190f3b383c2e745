use Rattle.std.proofs.Common.{List, map, sym, ap, ◌∙◌}
use Rattle.spl_tree.specs.declared.declarations.Decl.{Decl}
use Rattle.spl_tree.specs.declared.statements.Stmt.{Stmt}
use Rattle.spl_tree.specs.DeclarationTrees.{declarations}
use Rattle.spl_tree.specs.Spells.{declaration, heading_tree}
use Rattle.spl_tree.specs.Views.{statement}
use Rattle.spl_sound.specs.spl_meaning.Names as n
use Rattle.spl_sound.specs.spl_meaning.Faults.{first_fault}
use Rattle.spl_uses.specs.spl_found.OwnNames.{with_name}
use Rattle.spl_uses.specs.spl_found.FoundDeclarations.{found_procedure, procedure_by}
use Rattle.spl_sound.specs.spl_meaning.Names.{find}
use Rattle.spl_sorts.specs.Tables.{table_of}
use Rattle.spl_lists.specs.Arounds.{around_of}
use Rattle.spl_uses.specs.spl_found.FoundUnits.{walked}
use Rattle.spl_types.specs.WaitingNames.{waits_of}
use Rattle.spl_types.specs.OtherUnits.{agrees_of}
use Rattle.spl_types.proofs.DeclViews.{procedure_walked}
use Rattle.spl_types.proofs.unit_lists.global.Goals as goal

pub returns-in_ok-with_body-in-Procedure-clause-first : goal.returns-in_ok-with_body-in-Procedure-clause-first
returns-in_ok-with_body-in-Procedure-clause-first c =
    let a = around_of c.args.around.now in
    let agrees = agrees_of c.args.others.now in
    let w = waits_of c.args.waiting.now in
    let here = find (table_of c.args.here.now) in
    let f = c.args.report.now in
    let h = heading_tree c.in-Procedure.head in
    let names = with_name here h.name (n.procedure (n.profile_of h)) in
    let g = first_fault f (procedure_by here (w h.name) h) in
    c.in_ok-with_body-in-Procedure.ensures.first
    ∙ ap (λ (ds : List Decl). found_procedure names h (declarations (map declaration ds)) (map statement c.deref-in-Procedure.result.now) g) c.deref.ensures.value
    ∙ ap (λ (ss : List Stmt). found_procedure names h (declarations (map declaration c.in-Procedure.body.items.items)) (map statement ss) g) c.deref-in-Procedure.ensures.value
    ∙ sym (procedure_walked a agrees w here c.in-Procedure.head c.in-Procedure.body f)
    ∙ sym (ap (λ (d : Decl). walked a agrees w here (declaration d) f) c.in-Procedure.is)
