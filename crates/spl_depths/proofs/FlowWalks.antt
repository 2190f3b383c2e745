-- Loops over statements: the first limit from one of them on.
use Rattle.std.proofs.Common.{◌≡◌, ◌<◌, ◌≤◌, ℕ, ◌+◌, List, map, drop, length, get_or, Option, refl, ◌∙◌}
use Rattle.spl_tree.specs.declared.statements.Stmt.{Stmt}
use Rattle.spl_tree.specs.Views as view
use Rattle.spl_tree.specs.StatementTrees.{Statement, Statements, statements, and}
use Rattle.spl_sorts.specs.spl_meaning.Names.{Names}
use Rattle.spl_sorts.specs.spl_meaning.Limits.{Full}
use Rattle.spl_depths.specs.Reach.{Reach}
use Rattle.spl_depths.specs.Reached.{reached_statement, reached_statements}
use Rattle.spl_spots.proofs.ListWalks.{onward, onward_end}

statement_turn : (names : Names) (r : Reach) (s : Statement) (ss : Statements) (k : ℕ) (f : Option Full)
    → reached_statements names r (and s ss) k f ≡ reached_statements names r ss k (reached_statement names r s k f)
statement_turn names r s ss k f = unfold reached_statements in refl

pub statement_step : (names : Names) (r : Reach) (k : ℕ) (list : List Stmt) (i : ℕ) (s : Stmt) (f : Option Full)
    → i < length list → s ≡ get_or list i s
    → reached_statements names r (statements (map view.statement (drop i list))) k f
    ≡ reached_statements names r (statements (map view.statement (drop (i + 1) list))) k (reached_statement names r (view.statement s) k f)
statement_step names r k list i s f lt is =
    onward view.statement (λ ss. reached_statements names r (statements ss) k f) list i s lt is
    ∙ statement_turn names r (view.statement s) (statements (map view.statement (drop (i + 1) list))) k f

pub statements_end : (names : Names) (r : Reach) (k : ℕ) (list : List Stmt) (i : ℕ) (f : Option Full) → length list ≤ i
    → reached_statements names r (statements (map view.statement (drop i list))) k f ≡ f
statements_end names r k list i f le =
    onward_end view.statement (λ ss. reached_statements names r (statements ss) k f) list i le ∙ unfold reached_statements in refl

pub ruleset walks = (statement_step, statements_end)
