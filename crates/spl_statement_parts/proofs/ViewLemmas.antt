-- The trees of statements, one layer at a time.
use Rattle.std.proofs.Common.{◌≡◌, ap, sym, ◌∙◌, Option, Some, None, Box, Global}
use Rattle.spl_tree.specs.declared.names_and_places.At.{At}
use Rattle.spl_tree.specs.declared.statements.Test.{Test}
use Rattle.spl_tree.specs.declared.statements.Stmt.{Stmt}
use Rattle.spl_tree.specs.declared.statements.Stmt as stmt
use Rattle.spl_tree.specs.declared.statements.Stmt.TheVariants.{rolls-If}
use Rattle.spl_tree.specs.declared.statements.Stmt.TheFolds.{fold-roll-Stmt}
use Rattle.spl_tree.specs.StatementTrees as stat
use Rattle.spl_tree.specs.Views.{test_tree, statement, statement_step}
use Rattle.spl_statement_parts.specs.Parts.{boxed}

-- an IF, with ELSE and without
pub if_tree : (q : Test) (b : Box Stmt Global) (e : Option (Box Stmt Global)) (at : At)
    → statement (stmt.If q b e at) ≡ stat.Statement.if_test (test_tree q) (statement b.value) (stat.statements (boxed e)) at
if_tree q b None at = ap statement (sym (rolls-If q b None at)) ∙ fold-roll-Stmt stat.Statement statement_step _
if_tree q b (Some e) at = ap statement (sym (rolls-If q b (Some e) at)) ∙ fold-roll-Stmt stat.Statement statement_step _
