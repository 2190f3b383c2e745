use Rattle.std.proofs.Common.{map, Option, ap, ◌∙◌}
use Rattle.spl_tree.specs.DeclarationTrees.{declarations}
use Rattle.spl_tree.specs.StatementTrees.{statements}
use Rattle.spl_tree.specs.Spells.{declaration, heading_tree}
use Rattle.spl_tree.specs.Views as view
use Rattle.spl_sound.specs.spl_meaning.Names.{Names, find}
use Rattle.spl_sound.specs.spl_meaning.Faults.{Fault}
use Rattle.spl_sound.specs.spl_meaning.ExpressionRules.{Scope}
use Rattle.spl_sorts.specs.Tables.{table_of}
use Rattle.spl_uses.specs.spl_found.FoundStatements.{found_body}
use Rattle.spl_uses.specs.spl_found.FoundDeclarations.{found_subroutines, scope_in_procedure}
use Rattle.spl_types.specs.Procedures.{procedure_inside}
use Rattle.spl_types.proofs.procedures.procedure.Goals as goal

-- its subroutines and statements see its own list
pub returns : goal.returns
returns c =
    let globals = find (table_of c.args.globals.now) in
    let h = heading_tree c.args.head.now in
    let ds = declarations (map declaration c.args.items.now) in
    let ss = statements (map view.statement c.args.list.now) in
    let scope = c.inside-inside.ensures ∙ ap (λ (here : Names). procedure_inside here globals h) c.in_ok-own.ensures.names in
    c.in_ok-inner_rules.ensures
    ∙ ap (λ (sc : Scope). found_body sc ss (found_subroutines sc ds c.own_names.new.report)) scope
    ∙ ap (λ (r : Option Fault). found_body (scope_in_procedure globals h ds) ss (found_subroutines (scope_in_procedure globals h ds) ds r)) c.in_ok-own.ensures.first
