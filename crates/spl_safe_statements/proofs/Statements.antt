-- Statements whose parts are never lost are not, along the tree.
use Rattle.std.proofs.Common.{◌≡◌, ℕ, zero, suc, ◌+◌, not, Bool, true, false, List, [], ◌∷◌, ◌++◌, refl}
use Rattle.spl_meaning.specs.spl_tree.declared.names_and_places.At.{At}
use Rattle.spl_meaning.specs.spl_tree.StatementTrees as stat
use Rattle.spl_meaning.specs.spl_tree.StatementTrees.{Statement, Statements, Test}
use Rattle.spl_meaning.specs.Names.{same_name}
use Rattle.spl_meaning.specs.Stops.{stops}
use Rattle.spl_meaning.specs.References.{Here}
use Rattle.spl_meaning.specs.Values.{Callee}
use Rattle.spl_meaning.specs.Statements.{bears, bears_among, run, run_all, run_from, run_at, run_bearer, run_arm}
use Rattle.spl_meaning.specs.Faults.{unless}
use Rattle.spl_meaning.specs.ExpressionRules.{Scope}
use Rattle.spl_meaning.specs.StatementRules.{has_name, sets_code, list_labels, test_faults, condition_faults, counter_by, single_value_faults, step_faults, statement_faults, statements_faults, arms_faults}
use Rattle.spl_meaning.specs.States.{Exit, to_label, back}
use Rattle.spl_safe_statements.specs.Safe.{Keeps, Any, Ways, PartsAreSafe, AllPartsAreSafe}
use Rattle.spl_safe_statements.specs.Laws.{StatementsAreSafe, ListsAreSafe, BodiesAreSafe}
use Rattle.spl_safe_statements.proofs.Keeping.{never, keeps_done, keeps_leaves, keeps_go, keeps_known, keeps_inside, keeps_less, keeps_begin, keeps_stop, keeps_dropped, keeps_if, keeps_either, other_true, keeps_one}
use Rattle.spl_safe_statements.proofs.Parts.{keeps_looping, keeps_repeating, keeps_for, keeps_condition, keeps_deciding, keeps_landing, leads_around, leads_nowhere}

-- ---- faults

left_none : {A : Type 0} (xs ys : List A) → xs ++ ys ≡ [] → xs ≡ []
left_none [] ys e = refl
left_none (x ∷ xs) ys e = cc

right_none : {A : Type 0} (xs ys : List A) → xs ++ ys ≡ [] → ys ≡ []
right_none [] ys e = e
right_none (x ∷ xs) ys e = cc

unless_none : (b : Bool) (rule : ℕ) (at : At) → unless b rule at ≡ [] → b ≡ true
unless_none true rule at e = refl
unless_none false rule at e = cc

-- a code is tested where it may be
tested_after : (sc : Scope) (after : Bool) (q : Test) (at : At) (op : ℕ) → test_faults sc after q at ≡ [] → q ≡ stat.Test.code op → after ≡ true
tested_after sc after (stat.Test.code o) at op none is = unless_none after 22 at none
tested_after sc after (stat.Test.condition e) at op none is = cc

-- ---- along the tree

module _ (sc : Scope) (h : Here) (call : Callee) (d : ℕ) where
  abbrev returns : Bool
  returns = not sc.is_main

  abbrev Out : List (List ℕ) → Exit → Type 0
  Out labels = Ways returns labels

  mutual
    pub safe_run' : (i : ℕ) (labels : List (List ℕ)) (after : Bool) (s : Statement) (k : ℕ) → statement_faults sc labels after s ≡ []
        → PartsAreSafe sc.names h call d s k → Keeps after (sets_code sc.names s) Any (Out labels) (λ t. run h call d i s k t)
    safe_run' i labels after stat.Statement.empty k none safe = keeps_begin (keeps_done tt tt)
    safe_run' i labels after (stat.Statement.labelled x at s) k none safe = keeps_begin (safe_run' i labels false s k none safe)
    safe_run' i labels after (stat.Statement.block ss) k none safe =
        keeps_begin (keeps_dropped (keeps_landing (Out (labels ++ list_labels ss)) (Out labels) d (bears_among ss)
        (λ x there. safe_from i (labels ++ list_labels ss) false ss x k none safe there) (leads_around returns labels ss) (λ e. e)
        (safe_all' i (labels ++ list_labels ss) false ss k none safe)))
    safe_run' i labels after (stat.Statement.if_test q s ss at) k none safe =
        let test = test_faults sc after q at in
        let one = statement_faults sc labels false s in
        let others = arms_faults sc labels ss in
        let first = left_none (test ++ one) others none in
        keeps_deciding h call i q at k after _ safe.0 (λ op is. tested_after sc after q at op (left_none test one first) is)
        (λ b. keeps_dropped (keeps_if b (keeps_less (safe_run' (i + 1) labels false s k (right_none test one first) safe.1.0))
        (safe_arms (i + 1 + stops s) labels ss k (right_none (test ++ one) others none) safe.1.1)))
    safe_run' i labels after (stat.Statement.while_true e s at) k none safe =
        keeps_begin (keeps_looping (suc d) (keeps_condition h call e k safe.0)
        (keeps_dropped (safe_run' i labels false s k (right_none (condition_faults sc at e) (statement_faults sc labels false s) none) safe.1)))
    safe_run' i labels after (stat.Statement.until_true s e at) k none safe =
        keeps_begin (keeps_repeating (suc d) (keeps_condition h call e k safe.0)
        (keeps_dropped (safe_run' i labels false s k (left_none (statement_faults sc labels false s) (condition_faults sc at e) none) safe.1)))
    safe_run' i labels after (stat.Statement.for_values x first step last s at) k none safe =
        let counter = counter_by sc x (sc.names x) at in
        let begins = single_value_faults sc at first in
        let by_step = step_faults sc at step in
        let stop = single_value_faults sc at last in
        keeps_stop i at (keeps_for h call d x first step last k safe.0.0 safe.0.1.0 safe.0.1.1.0 safe.0.1.1.1
        (keeps_dropped (safe_run' (i + 1) labels false s (k + 3) (right_none (counter ++ begins ++ by_step ++ stop) (statement_faults sc labels false s) none) safe.1)))
    safe_run' i labels after (stat.Statement.case_of e ss at) k none safe =
        let arms = right_none (single_value_faults sc at e) (arms_faults sc (labels ++ list_labels ss) ss) none in
        keeps_stop i at (keeps_go (keeps_inside safe.0) (λ vs one. keeps_one vs one (λ w.
        keeps_dropped (keeps_landing (Out (labels ++ list_labels ss)) (Out labels) d (bears_among ss)
        (λ x there. safe_bearer (i + 1) (labels ++ list_labels ss) ss x k arms safe.1 there) (leads_around returns labels ss) (λ e'. e')
        (safe_arm (i + 1) (labels ++ list_labels ss) ss w k arms safe.1)))))
    safe_run' i labels after (stat.Statement.go_to x at) k none safe = keeps_stop i at (keeps_leaves (to_label x) (unless_none (has_name labels x) 21 at none))
    safe_run' i labels after (stat.Statement.return at) k none safe = keeps_stop i at (keeps_leaves back (unless_none returns 25 at none))
    safe_run' i labels after (stat.Statement.assign to e at) k none safe = keeps_stop i at (keeps_inside safe)
    safe_run' i labels after (stat.Statement.assign_effect to e at) k none safe = keeps_stop i at (keeps_inside safe)
    safe_run' i labels after (stat.Statement.do_effect e at) k none safe = keeps_stop i at (keeps_inside safe)
    safe_run' i labels after (stat.Statement.call x es at) k none safe = keeps_stop i at (keeps_inside safe)

    pub safe_all' : (i : ℕ) (labels : List (List ℕ)) (after : Bool) (ss : Statements) (k : ℕ) → statements_faults sc labels after ss ≡ []
        → AllPartsAreSafe sc.names h call d ss k → Keeps after false Any (Out labels) (λ t. run_all h call d i ss k t)
    safe_all' i labels after stat.Statements.none k none safe = keeps_known (keeps_done tt tt)
    safe_all' i labels after (stat.Statements.and s ss) k none safe =
        let one = statement_faults sc labels after s in
        let others = statements_faults sc labels (sets_code sc.names s) ss in
        keeps_go (safe_run' i labels after s k (left_none one others none) safe.0)
        (λ _ _. safe_all' (i + stops s) labels (sets_code sc.names s) ss k (right_none one others none) safe.1)

    -- a list from one of its labels on
    pub safe_from : (i : ℕ) (labels : List (List ℕ)) (after : Bool) (ss : Statements) (x : List ℕ) (k : ℕ) → statements_faults sc labels after ss ≡ []
        → AllPartsAreSafe sc.names h call d ss k → bears_among ss x ≡ true → Keeps false false Any (Out labels) (λ t. run_from h call d i ss x k t)
    safe_from i labels after stat.Statements.none x k none safe there = never there
    safe_from i labels after (stat.Statements.and s ss) x k none safe there =
        let one = statement_faults sc labels after s in
        let others = statements_faults sc labels (sets_code sc.names s) ss in
        keeps_either (bears s x)
        (λ is. keeps_go (safe_at i labels after s x k (left_none one others none) safe.0 is)
        (λ _ _. safe_all' (i + stops s) labels (sets_code sc.names s) ss k (right_none one others none) safe.1))
        (λ is. safe_from (i + stops s) labels (sets_code sc.names s) ss x k (right_none one others none) safe.1 (other_true (bears s x) (bears_among ss x) there is))

    -- a statement from one of its own labels on
    pub safe_at : (i : ℕ) (labels : List (List ℕ)) (after : Bool) (s : Statement) (x : List ℕ) (k : ℕ) → statement_faults sc labels after s ≡ []
        → PartsAreSafe sc.names h call d s k → bears s x ≡ true → Keeps false (sets_code sc.names s) Any (Out labels) (λ t. run_at h call d i s x k t)
    safe_at i labels after (stat.Statement.labelled y at s) x k none safe there =
        keeps_either (same_name x y) (λ is. keeps_begin (safe_run' i labels false s k none safe))
        (λ is. safe_at i labels false s x k none safe (other_true (same_name x y) (bears s x) there is))
    safe_at i labels after stat.Statement.empty x k none safe there = never there
    safe_at i labels after (stat.Statement.block ss) x k none safe there = never there
    safe_at i labels after (stat.Statement.if_test q s ss at) x k none safe there = never there
    safe_at i labels after (stat.Statement.while_true e s at) x k none safe there = never there
    safe_at i labels after (stat.Statement.until_true s e at) x k none safe there = never there
    safe_at i labels after (stat.Statement.for_values y first step last s at) x k none safe there = never there
    safe_at i labels after (stat.Statement.case_of e ss at) x k none safe there = never there
    safe_at i labels after (stat.Statement.go_to y at) x k none safe there = never there
    safe_at i labels after (stat.Statement.return at) x k none safe there = never there
    safe_at i labels after (stat.Statement.assign to e at) x k none safe there = never there
    safe_at i labels after (stat.Statement.assign_effect to e at) x k none safe there = never there
    safe_at i labels after (stat.Statement.do_effect e at) x k none safe there = never there
    safe_at i labels after (stat.Statement.call y es at) x k none safe there = never there

    -- statements none of which is directly behind another, one after the other
    pub safe_arms : (i : ℕ) (labels : List (List ℕ)) (ss : Statements) (k : ℕ) → arms_faults sc labels ss ≡ [] → AllPartsAreSafe sc.names h call d ss k
        → Keeps false false Any (Out labels) (λ t. run_all h call d i ss k t)
    safe_arms i labels stat.Statements.none k none safe = keeps_done tt tt
    safe_arms i labels (stat.Statements.and s ss) k none safe =
        let one = statement_faults sc labels false s in
        let others = arms_faults sc labels ss in
        keeps_go (keeps_less (safe_run' i labels false s k (left_none one others none) safe.0))
        (λ _ _. safe_arms (i + stops s) labels ss k (right_none one others none) safe.1)

    -- one of them, by its label
    pub safe_bearer : (i : ℕ) (labels : List (List ℕ)) (ss : Statements) (x : List ℕ) (k : ℕ) → arms_faults sc labels ss ≡ []
        → AllPartsAreSafe sc.names h call d ss k → bears_among ss x ≡ true → Keeps false false Any (Out labels) (λ t. run_bearer h call d i ss x k t)
    safe_bearer i labels stat.Statements.none x k none safe there = never there
    safe_bearer i labels (stat.Statements.and s ss) x k none safe there =
        let one = statement_faults sc labels false s in
        let others = arms_faults sc labels ss in
        keeps_either (bears s x) (λ is. keeps_less (safe_at i labels false s x k (left_none one others none) safe.0 is))
        (λ is. safe_bearer (i + stops s) labels ss x k (right_none one others none) safe.1 (other_true (bears s x) (bears_among ss x) there is))

    -- and by its index
    pub safe_arm : (i : ℕ) (labels : List (List ℕ)) (ss : Statements) (j k : ℕ) → arms_faults sc labels ss ≡ [] → AllPartsAreSafe sc.names h call d ss k
        → Keeps false false Any (Out labels) (λ t. run_arm h call d i ss j k t)
    safe_arm i labels stat.Statements.none j k none safe = keeps_done tt tt
    safe_arm i labels (stat.Statements.and s ss) zero k none safe =
        keeps_less (safe_run' i labels false s k (left_none (statement_faults sc labels false s) (arms_faults sc labels ss) none) safe.0)
    safe_arm i labels (stat.Statements.and s ss) (suc j) k none safe =
        safe_arm (i + stops s) labels ss j k (right_none (statement_faults sc labels false s) (arms_faults sc labels ss) none) safe.1

-- ---- the laws

pub safe_run : StatementsAreSafe
safe_run sc h call d i labels after s k none safe = safe_run' sc h call d i labels after s k none safe

pub safe_all : ListsAreSafe
safe_all sc h call d i labels after ss k none safe = safe_all' sc h call d i labels after ss k none safe

pub safe_body : BodiesAreSafe
safe_body sc h call d i ss none safe =
    keeps_landing (Ways (not sc.is_main) (list_labels ss)) (Ways (not sc.is_main) []) d (bears_among ss)
    (λ x there. safe_from sc h call d i (list_labels ss) false ss x 0 none safe there) (leads_nowhere (not sc.is_main) ss) (λ e. e)
    (safe_all' sc h call d i (list_labels ss) false ss 0 none safe)
