-- The trees of statements, one layer at a time.
use Rattle.std.proofs.Common.{Vec, ◌≡◌, ap, sym, ◌∙◌, Box, Global, Option, Some, None, map}
use Rattle.spl_tree.specs.declared.names_and_places.At.{At}
use Rattle.spl_tree.specs.declared.names_and_places.Name.{Name}
use Rattle.spl_tree.specs.declared.expressions.Expr.{Expr}
use Rattle.spl_tree.specs.declared.statements.Test.{Test}
use Rattle.spl_tree.specs.declared.statements.Target.{Target}
use Rattle.spl_tree.specs.declared.statements.Effect.{Effect}
use Rattle.spl_tree.specs.declared.statements.Stmt.{Stmt}
use Rattle.spl_tree.specs.declared.statements.Stmt as stmt
use Rattle.spl_tree.specs.declared.statements.Stmt.TheVariants.{rolls-Labelled, rolls-Goto, rolls-Return, rolls-Assign, rolls-AssignEffect, rolls-Do, rolls-Call, rolls-Block, rolls-Case, rolls-If, rolls-While, rolls-Until, rolls-For}
use Rattle.spl_tree.specs.declared.statements.Stmt.TheFolds.{fold-roll-Stmt}
use Rattle.spl_tree.specs.Trees.{trees}
use Rattle.spl_tree.specs.StatementTrees as stat
use Rattle.spl_tree.specs.Views.{letters, expression, optional, test_tree, target_tree, effect_tree, statement, statement_step}

pub labelled_tree : (name : Name) (at : At) (s : Box Stmt Global) → statement (stmt.Labelled name at s) ≡ stat.Statement.labelled (letters name) at (statement s.value)
labelled_tree name at s = ap statement (sym (rolls-Labelled name at s)) ∙ fold-roll-Stmt stat.Statement statement_step _

pub if_tree : (q : Test) (s : Box Stmt Global) (at : At)
    → statement (stmt.If q s None at) ≡ stat.Statement.if_test (test_tree q) (statement s.value) stat.Statements.none at
if_tree q s at = ap statement (sym (rolls-If q s None at)) ∙ fold-roll-Stmt stat.Statement statement_step _

pub either_tree : (q : Test) (s t : Box Stmt Global) (at : At)
    → statement (stmt.If q s (Some t) at)
    ≡ stat.Statement.if_test (test_tree q) (statement s.value) (stat.Statements.and (statement t.value) stat.Statements.none) at
either_tree q s t at = ap statement (sym (rolls-If q s (Some t) at)) ∙ fold-roll-Stmt stat.Statement statement_step _

pub while_tree : (e : Expr) (s : Box Stmt Global) (at : At) → statement (stmt.While e s at) ≡ stat.Statement.while_true (expression e) (statement s.value) at
while_tree e s at = ap statement (sym (rolls-While e s at)) ∙ fold-roll-Stmt stat.Statement statement_step _

pub until_tree : (s : Box Stmt Global) (e : Expr) (at : At) → statement (stmt.Until s e at) ≡ stat.Statement.until_true (statement s.value) (expression e) at
until_tree s e at = ap statement (sym (rolls-Until s e at)) ∙ fold-roll-Stmt stat.Statement statement_step _

pub for_tree : (name : Name) (first : Expr) (step : Option Expr) (last : Expr) (s : Box Stmt Global) (at : At)
    → statement (stmt.For name first step last s at)
    ≡ stat.Statement.for_values (letters name) (expression first) (trees (optional step)) (expression last) (statement s.value) at
for_tree name first step last s at = ap statement (sym (rolls-For name first step last s at)) ∙ fold-roll-Stmt stat.Statement statement_step _

pub goto_tree : (name : Name) (at : At) → statement (stmt.Goto name at) ≡ stat.Statement.go_to (letters name) at
goto_tree name at = ap statement (sym (rolls-Goto name at)) ∙ fold-roll-Stmt stat.Statement statement_step _

pub return_tree : (at : At) → statement (stmt.Return at) ≡ stat.Statement.return at
return_tree at = ap statement (sym (rolls-Return at)) ∙ fold-roll-Stmt stat.Statement statement_step _

pub assign_tree : (to : Target) (e : Expr) (at : At) → statement (stmt.Assign to e at) ≡ stat.Statement.assign (target_tree to) (expression e) at
assign_tree to e at = ap statement (sym (rolls-Assign to e at)) ∙ fold-roll-Stmt stat.Statement statement_step _

pub assign_effect_tree : (to : Target) (e : Effect) (at : At)
    → statement (stmt.AssignEffect to e at) ≡ stat.Statement.assign_effect (target_tree to) (effect_tree e) at
assign_effect_tree to e at = ap statement (sym (rolls-AssignEffect to e at)) ∙ fold-roll-Stmt stat.Statement statement_step _

pub do_tree : (e : Effect) (at : At) → statement (stmt.Do e at) ≡ stat.Statement.do_effect (effect_tree e) at
do_tree e at = ap statement (sym (rolls-Do e at)) ∙ fold-roll-Stmt stat.Statement statement_step _

pub call_tree : (name : Name) (args : Vec Expr Global) (at : At) → statement (stmt.Call name args at) ≡ stat.Statement.call (letters name) (trees (map expression args.items)) at
call_tree name args at = ap statement (sym (rolls-Call name args at)) ∙ fold-roll-Stmt stat.Statement statement_step _

pub block_tree : (ss : Vec Stmt Global) → statement (stmt.Block ss) ≡ stat.Statement.block (stat.statements (map statement ss.items))
block_tree ss = ap statement (sym (rolls-Block ss)) ∙ fold-roll-Stmt stat.Statement statement_step _

pub case_tree : (e : Expr) (ss : Vec Stmt Global) (at : At)
    → statement (stmt.Case e ss at) ≡ stat.Statement.case_of (expression e) (stat.statements (map statement ss.items)) at
case_tree e ss at = ap statement (sym (rolls-Case e ss at)) ∙ fold-roll-Stmt stat.Statement statement_step _
