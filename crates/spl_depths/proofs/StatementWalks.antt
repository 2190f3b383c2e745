-- Loops over statements: what waits from one of them on. And the tree of an IF, without and with an ELSE.
use Rattle.std.proofs.Common.{◌≡◌, ◌<◌, ◌≤◌, ℕ, ◌+◌, max, List, [], ◌∷◌, map, drop, length, get_or, ap, sym, ◌∙◌, Some, None, Box, Global, arith}
use Rattle.spl_tree.specs.declared.names_and_places.At.{At}
use Rattle.spl_tree.specs.declared.statements.Test.{Test}
use Rattle.spl_tree.specs.declared.statements.Stmt.{Stmt}
use Rattle.spl_tree.specs.declared.statements.Stmt as stmt
use Rattle.spl_tree.specs.declared.statements.Stmt.TheVariants.{rolls-If}
use Rattle.spl_tree.specs.declared.statements.Stmt.TheFolds.{fold-roll-Stmt}
use Rattle.spl_tree.specs.Views as view
use Rattle.spl_tree.specs.StatementTrees as stat
use Rattle.spl_tree.specs.StatementTrees.{Statement, statements, and, none}
use Rattle.spl_sorts.specs.spl_meaning.Names.{Names}
use Rattle.spl_sorts.specs.spl_meaning.Pending.{statement_most, statements_most}
use Rattle.spl_spots.proofs.ListWalks.{onward, onward_end}

pub statement_step : (names : Names) (list : List Stmt) (i : ℕ) (s : Stmt) → i < length list → s ≡ get_or list i s
    → statements_most names (statements (map view.statement (drop i list)))
    ≡ max (statement_most names (view.statement s)) (statements_most names (statements (map view.statement (drop (i + 1) list))))
statement_step names list i s lt is = onward view.statement (λ ss. statements_most names (statements ss)) list i s lt is

pub statements_end : (names : Names) (list : List Stmt) (i : ℕ) → length list ≤ i
    → statements_most names (statements (map view.statement (drop i list))) ≡ 0
statements_end names list i le = onward_end view.statement (λ ss. statements_most names (statements ss)) list i le

-- one statement in a list, and none
pub one_waits : (names : Names) (s : Statement) → statements_most names (and s none) ≡ statement_most names s
one_waits names s = omega arith

pub ruleset walks = (statement_step, statements_end, one_waits)

-- an IF without ELSE
pub if_then_tree : (q : Test) (b : Box Stmt Global) (at : At)
    → view.statement (stmt.If q b None at) ≡ stat.Statement.if_test (view.test_tree q) (view.statement b.value) (statements []) at
if_then_tree q b at = ap view.statement (sym (rolls-If q b None at)) ∙ fold-roll-Stmt stat.Statement view.statement_step _

-- and with one
pub if_else_tree : (q : Test) (b e : Box Stmt Global) (at : At)
    → view.statement (stmt.If q b (Some e) at)
    ≡ stat.Statement.if_test (view.test_tree q) (view.statement b.value) (statements (view.statement e.value ∷ [])) at
if_else_tree q b e at = ap view.statement (sym (rolls-If q b (Some e) at)) ∙ fold-roll-Stmt stat.Statement view.statement_step _

pub ruleset heads = (if_then_tree, if_else_tree, one_waits)
