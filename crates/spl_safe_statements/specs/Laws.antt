-- The laws of this crate: statements that keep the rules of labels, of RETURN and of the condition code, and whose parts are never lost, are never lost.
use Rattle.std.specs.Prelude.{◌≡◌, ℕ, not, Bool, false, List, []}
use Rattle.spl_meaning.specs.spl_tree.StatementTrees.{Statement, Statements}
use Rattle.spl_meaning.specs.References.{Here}
use Rattle.spl_meaning.specs.Values.{Callee}
use Rattle.spl_meaning.specs.Statements.{run, run_all, run_body}
use Rattle.spl_meaning.specs.ExpressionRules.{Scope}
use Rattle.spl_meaning.specs.StatementRules.{sets_code, list_labels, statement_faults, statements_faults}
use Rattle.spl_safe_statements.specs.Safe.{Keeps, Any, Ways, PartsAreSafe, AllPartsAreSafe}

-- A statement that breaks no rule, with these labels around it: it leaves by GO TO to one of them alone, and by RETURN where that may stand; and
-- a condition code is known behind it where rule 22 lets a test follow.
abbrev pub StatementsAreSafe : Type 0
StatementsAreSafe = (sc : Scope) (h : Here) (call : Callee) (d i : ℕ) (labels : List (List ℕ)) (after : Bool) (s : Statement) (k : ℕ)
    → statement_faults sc labels after s ≡ [] → PartsAreSafe sc.names h call d s k
    → Keeps after (sets_code sc.names s) Any (Ways (not sc.is_main) labels) (λ t. run h call d i s k t)

-- the statements of a list
abbrev pub ListsAreSafe : Type 0
ListsAreSafe = (sc : Scope) (h : Here) (call : Callee) (d i : ℕ) (labels : List (List ℕ)) (after : Bool) (ss : Statements) (k : ℕ)
    → statements_faults sc labels after ss ≡ [] → AllPartsAreSafe sc.names h call d ss k
    → Keeps after false Any (Ways (not sc.is_main) labels) (λ t. run_all h call d i ss k t)

-- A list that is a body takes all its jumps: it is left by RETURN alone.
abbrev pub BodiesAreSafe : Type 0
BodiesAreSafe = (sc : Scope) (h : Here) (call : Callee) (d i : ℕ) (ss : Statements) → statements_faults sc (list_labels ss) false ss ≡ []
    → AllPartsAreSafe sc.names h call d ss 0 → Keeps false false Any (Ways (not sc.is_main) []) (λ t. run_body h call d i ss t)
