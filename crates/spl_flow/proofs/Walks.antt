-- Loops over statements: what is found from one of them on.
use Rattle.std.proofs.Common.{◌≡◌, ◌<◌, ◌≤◌, ℕ, ◌+◌, Bool, false, List, map, drop, length, get_or, Option, refl, ap, ◌∙◌}
use Rattle.std.proofs.lemmas.List.{drop_all}
use Rattle.spl_tree.specs.declared.statements.Stmt.{Stmt}
use Rattle.spl_tree.specs.Views as view
use Rattle.spl_tree.specs.StatementTrees.{Statement, Statements, statements, and}
use Rattle.spl_sorts.specs.spl_meaning.Faults.{Fault}
use Rattle.spl_sorts.specs.spl_meaning.ExpressionRules.{Scope}
use Rattle.spl_sorts.specs.spl_meaning.StatementRules.{sets_code}
use Rattle.spl_found.specs.FoundStatements.{found_statement, found_statements, found_arms}
use Rattle.spl_flow.proofs.LabelLemmas.{front}

statement_turn : (sc : Scope) (labels : List ℕ → Bool) (after : Bool) (s : Statement) (ss : Statements) (f : Option Fault)
    → found_statements sc labels after (and s ss) f ≡ found_statements sc labels (sets_code sc.names s) ss (found_statement sc labels after s f)
statement_turn sc labels after s ss f = unfold found_statements in refl

pub statement_step : (sc : Scope) (labels : List ℕ → Bool) (after : Bool) (list : List Stmt) (i : ℕ) (s : Stmt) (f : Option Fault)
    → i < length list → s ≡ get_or list i s
    → found_statements sc labels after (statements (map view.statement (drop i list))) f
    ≡ found_statements sc labels (sets_code sc.names (view.statement s)) (statements (map view.statement (drop (i + 1) list)))
    (found_statement sc labels after (view.statement s) f)
statement_step sc labels after list i s f lt is =
    ap (λ (ss : List Stmt). found_statements sc labels after (statements (map view.statement ss)) f) (front list i s lt is)
    ∙ statement_turn sc labels after (view.statement s) (statements (map view.statement (drop (i + 1) list))) f

pub statements_end : (sc : Scope) (labels : List ℕ → Bool) (after : Bool) (list : List Stmt) (i : ℕ) (f : Option Fault) → length list ≤ i
    → found_statements sc labels after (statements (map view.statement (drop i list))) f ≡ f
statements_end sc labels after list i f le =
    ap (λ (ss : List Stmt). found_statements sc labels after (statements (map view.statement ss)) f) (drop_all i list le) ∙ unfold found_statements in refl

arm_turn : (sc : Scope) (labels : List ℕ → Bool) (s : Statement) (ss : Statements) (f : Option Fault)
    → found_arms sc labels (and s ss) f ≡ found_arms sc labels ss (found_statement sc labels false s f)
arm_turn sc labels s ss f = unfold found_arms in refl

pub arm_step : (sc : Scope) (labels : List ℕ → Bool) (list : List Stmt) (i : ℕ) (s : Stmt) (f : Option Fault) → i < length list → s ≡ get_or list i s
    → found_arms sc labels (statements (map view.statement (drop i list))) f
    ≡ found_arms sc labels (statements (map view.statement (drop (i + 1) list))) (found_statement sc labels false (view.statement s) f)
arm_step sc labels list i s f lt is =
    ap (λ (ss : List Stmt). found_arms sc labels (statements (map view.statement ss)) f) (front list i s lt is)
    ∙ arm_turn sc labels (view.statement s) (statements (map view.statement (drop (i + 1) list))) f

pub arms_end : (sc : Scope) (labels : List ℕ → Bool) (list : List Stmt) (i : ℕ) (f : Option Fault) → length list ≤ i
    → found_arms sc labels (statements (map view.statement (drop i list))) f ≡ f
arms_end sc labels list i f le =
    ap (λ (ss : List Stmt). found_arms sc labels (statements (map view.statement ss)) f) (drop_all i list le) ∙ unfold found_arms in refl

pub ruleset walks = (statement_step, statements_end, arm_step, arms_end)
