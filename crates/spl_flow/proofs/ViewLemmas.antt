-- The tree of an IF, without and with an ELSE.
use Rattle.std.proofs.Common.{◌≡◌, ap, sym, ◌∙◌, Some, None, [], ◌∷◌, Box, Global}
use Rattle.spl_tree.specs.declared.names_and_places.At.{At}
use Rattle.spl_tree.specs.declared.statements.Test.{Test}
use Rattle.spl_tree.specs.declared.statements.Stmt.{Stmt}
use Rattle.spl_tree.specs.declared.statements.Stmt as stmt
use Rattle.spl_tree.specs.declared.statements.Stmt.TheVariants.{rolls-If}
use Rattle.spl_tree.specs.declared.statements.Stmt.TheFolds.{fold-roll-Stmt}
use Rattle.spl_tree.specs.StatementTrees as stat
use Rattle.spl_tree.specs.Views.{test_tree, statement, statement_step}

-- an IF without ELSE
pub if_then_tree : (q : Test) (b : Box Stmt Global) (at : At)
    → statement (stmt.If q b None at) ≡ stat.Statement.if_test (test_tree q) (statement b.value)
    (stat.statements []) at
if_then_tree q b at = ap statement (sym (rolls-If q b None at)) ∙ fold-roll-Stmt stat.Statement statement_step _

-- and with one
pub if_else_tree : (q : Test) (b e : Box Stmt Global) (at : At)
    → statement (stmt.If q b (Some e) at) ≡ stat.Statement.if_test (test_tree q) (statement b.value)
    (stat.statements (statement e.value ∷ [])) at
if_else_tree q b e at = ap statement (sym (rolls-If q b (Some e) at)) ∙ fold-roll-Stmt stat.Statement statement_step _

pub ruleset views = (if_then_tree, if_else_tree)
