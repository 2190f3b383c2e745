-- Labels in tables: a table has the labels that were declared in it, and a label that it has stands again.
use Rattle.std.proofs.Common.{◌≡◌, ◌<◌, ◌≤◌, ℕ, ◌+◌, suc, Bool, true, false, ◌||◌, not, List, [], ◌∷◌, ◌++◌, map, drop, length, get_or, Option, Some, None, is_some, refl, ap, sym, ◌∙◌, add-one, Box, Global}
use Rattle.std.specs.Prelude.{if◌then◌else◌}
use Rattle.std.proofs.Math.Seq.{drop-cons}
use Rattle.std.proofs.lemmas.List.{drop_all}
use Rattle.std.proofs.lemmas.List.Folds.{list_any-append}
use lib.Pointwise.{bytes_decides}
use Rattle.spl_tree.specs.declared.statements.Stmt.{Stmt}
use Rattle.spl_tree.specs.declared.statements.Stmt as stmt
use Rattle.spl_tree.specs.declared.statements.Test.{Test}
use Rattle.spl_tree.specs.declared.names_and_places.At.{At}
use Rattle.spl_tree.specs.Views as view
use Rattle.spl_tree.specs.StatementTrees.{Statement, Statements, statements}
use Rattle.spl_tree.specs.DeclarationTrees.{Placed}
use Rattle.spl_sorts.specs.spl_meaning.Names as n
use Rattle.spl_sorts.specs.spl_meaning.Names.{same_name, find}
use Rattle.spl_sorts.specs.spl_meaning.Tables.{declared}
use Rattle.spl_sorts.specs.spl_meaning.Faults.{Fault, unless, first_fault}
use Rattle.spl_sorts.specs.spl_meaning.StatementRules as rules
use Rattle.spl_found.specs.FoundStatements.{with_list, found_statement, found_statements, found_arms}
use Rattle.spl_found.proofs.Order.{first_then}
use Rattle.spl_sorts.specs.spl_meaning.ExpressionRules.{Scope}
use Rattle.spl_sorts.specs.declared.tables.Table.{Table}
use Rattle.spl_sorts.specs.Tables.{table_of}
use Rattle.spl_flow.proofs.ViewLemmas.{if_else_tree}
use Rattle.spl_flow.specs.Labels.{has, shown, with_labels, Seen, seen, seen_label, seen_all}

-- a list from one of its elements on
pub front : {X : Type 0} (xs : List X) (i : ℕ) (x : X) → i < length xs → x ≡ get_or xs i x → drop i xs ≡ x ∷ drop (i + 1) xs
front xs i x lt is = drop-cons xs i x lt ∙ ap (λ y. y ∷ drop (suc i) xs) (sym is) ∙ rw (add-one i) refl

-- ---- a table of labels, label by label

pub with_both : (t : n.Table n.Sort) (xs ys : List (List ℕ)) → with_labels t (xs ++ ys) ≡ with_labels (with_labels t xs) ys
with_both t [] ys = refl
with_both t (x ∷ xs) ys = with_both (declared t x n.label) xs ys

pub labels_step : (t : n.Table n.Sort) (list : List Stmt) (i : ℕ) (s : Stmt) → i < length list → s ≡ get_or list i s
    → with_labels t (rules.list_labels (statements (map view.statement (drop i list))))
    ≡ with_labels (with_labels t (rules.own_labels (view.statement s))) (rules.list_labels (statements (map view.statement (drop (i + 1) list))))
labels_step t list i s lt is =
    ap (λ (ss : List Stmt). with_labels t (rules.list_labels (statements (map view.statement ss)))) (front list i s lt is)
    ∙ with_both t (rules.own_labels (view.statement s)) (rules.list_labels (statements (map view.statement (drop (i + 1) list))))

pub labels_end : (t : n.Table n.Sort) (list : List Stmt) (i : ℕ) → length list ≤ i
    → with_labels t (rules.list_labels (statements (map view.statement (drop i list)))) ≡ t
labels_end t list i le = ap (λ (ss : List Stmt). with_labels t (rules.list_labels (statements (map view.statement ss)))) (drop_all i list le)

pub ruleset label_steps = (labels_step, labels_end)

-- ---- labels of a body

pub seen_both : (s : Seen) (xs ys : List Placed) → seen_all s (xs ++ ys) ≡ seen_all (seen_all s xs) ys
seen_both s [] ys = refl
seen_both s (x ∷ xs) ys = seen_both (seen_label s x) xs ys

pub seen_step : (k : Seen) (list : List Stmt) (i : ℕ) (s : Stmt) → i < length list → s ≡ get_or list i s
    → seen_all k (rules.all_labels_of (statements (map view.statement (drop i list))))
    ≡ seen_all (seen_all k (rules.all_labels (view.statement s))) (rules.all_labels_of (statements (map view.statement (drop (i + 1) list))))
seen_step k list i s lt is =
    ap (λ (ss : List Stmt). seen_all k (rules.all_labels_of (statements (map view.statement ss)))) (front list i s lt is)
    ∙ seen_both k (rules.all_labels (view.statement s)) (rules.all_labels_of (statements (map view.statement (drop (i + 1) list))))

pub seen_end : (k : Seen) (list : List Stmt) (i : ℕ) → length list ≤ i
    → seen_all k (rules.all_labels_of (statements (map view.statement (drop i list)))) ≡ k
seen_end k list i le = ap (λ (ss : List Stmt). seen_all k (rules.all_labels_of (statements (map view.statement ss)))) (drop_all i list le)

-- behind two statements, of which the second is a list by itself
seen_branches : (s : Seen) (xs ys : List Placed) → seen_all s (xs ++ (ys ++ [])) ≡ seen_all (seen_all s xs) ys
seen_branches s xs ys = seen_both s xs (ys ++ []) ∙ seen_both (seen_all s xs) ys []

-- behind an IF with an ELSE
pub seen_else : (k m l : Seen) (s y z : Stmt) (q : Test) (b e : Box Stmt Global) (other : Option (Box Stmt Global)) (at : At)
    → s ≡ stmt.If q b other at → other ≡ Some e → y ≡ b.value → z ≡ e.value
    → m ≡ seen_all k (rules.all_labels (view.statement y)) → l ≡ seen_all m (rules.all_labels (view.statement z))
    → l ≡ seen_all k (rules.all_labels (view.statement s))
seen_else k m l s y z q b e other at is there first second before behind =
    behind ∙ ap (λ (j : Seen). seen_all j (rules.all_labels (view.statement z))) before
    ∙ ap (λ (u : Stmt). seen_all (seen_all k (rules.all_labels (view.statement u))) (rules.all_labels (view.statement z))) first
    ∙ ap (λ (u : Stmt). seen_all (seen_all k (rules.all_labels (view.statement b.value))) (rules.all_labels (view.statement u))) second
    ∙ sym (seen_branches k (rules.all_labels (view.statement b.value)) (rules.all_labels (view.statement e.value)))
    ∙ ap (λ (t : Statement). seen_all k (rules.all_labels t))
    (sym (ap view.statement (is ∙ ap (λ (o : Option (Box Stmt Global)). stmt.If q b o at) there) ∙ if_else_tree q b e at))

pub ruleset seen_steps = (seen_both, seen_step, seen_end)

-- ---- what a table has

has_more : (t : n.Table n.Sort) (x y : List ℕ) → has (t ++ (x, n.label) ∷ []) y ≡ (if same_name y x then true else has t y)
has_more [] x y = by (same_name y x)
  where
    by : (b : Bool) → is_some (if b then Some n.label else None) ≡ (if b then true else false)
    by true = refl
    by false = refl
has_more (e ∷ es) x y = by (same_name y e.0) (same_name y x) (has_more es x y)
  where
    by : (a b : Bool) → has (es ++ (x, n.label) ∷ []) y ≡ (if b then true else has es y)
        → is_some (if a then Some e.1 else find (es ++ (x, n.label) ∷ []) y) ≡ (if b then true else is_some (if a then Some e.1 else find es y))
    by true true h = refl
    by true false h = refl
    by false true h = h
    by false false h = h

-- a name that stands in the table
has_same : (t : n.Table n.Sort) (x y : List ℕ) → has t x ≡ true → has t y ≡ (if same_name y x then true else has t y)
has_same t x y h = by (same_name y x) (λ e. ap (has t) ((bytes_decides y x).0 e) ∙ h)
  where
    by : (b : Bool) → (b ≡ true → has t y ≡ true) → has t y ≡ (if b then true else has t y)
    by true k = k refl
    by false k = refl

-- a table has the name that is declared, and those that it had
pub has_declared : (t : n.Table n.Sort) (x y : List ℕ) → has (declared t x n.label) y ≡ (if same_name y x then true else has t y)
has_declared t x y = by (has t x) refl
  where
    by : (b : Bool) → has t x ≡ b → has (if b then t else t ++ (x, n.label) ∷ []) y ≡ (if same_name y x then true else has t y)
    by true h = has_same t x y h
    by false h = has_more t x y

-- a table has the labels that are declared in it, and the names that it had
pub has_labels : (t : n.Table n.Sort) (xs : List (List ℕ)) (y : List ℕ) → has (with_labels t xs) y ≡ (has t y || rules.has_name xs y)
has_labels t [] y = by (has t y)
  where
    by : (b : Bool) → b ≡ (b || false)
    by true = refl
    by false = refl
has_labels t (x ∷ xs) y = has_labels (declared t x n.label) xs y
    ∙ ap (λ (b : Bool). b || rules.has_name xs y) (has_declared t x y) ∙ by (same_name y x) (has t y)
  where
    by : (b c : Bool) → ((if b then true else c) || rules.has_name xs y) ≡ (c || (if b then true else rules.has_name xs y))
    by true true = refl
    by true false = refl
    by false true = refl
    by false false = refl

-- tables with one more, which has the labels of a list, have these beside the others
pub shown_list : (ts : List Table) (t : Table) (ss : Statements) → table_of t ≡ with_labels [] (rules.list_labels ss)
    → shown (ts ++ t ∷ []) ≡ with_list (shown ts) ss
shown_list ts t ss is = λ i x. (list_any-append (λ (u : Table). has (table_of u) x) ts (t ∷ []) ∙ ap (λ (b : Bool). shown ts x || b) (last x)) i
  where
    by : (b : Bool) → (b || false) ≡ b
    by true = refl
    by false = refl

    last : (x : List ℕ) → shown (t ∷ []) x ≡ rules.has_name (rules.list_labels ss) x
    last x = by (has (table_of t) x) ∙ ap (λ (l : n.Table n.Sort). has l x) is ∙ has_labels [] (rules.list_labels ss) x

-- what is found inside a list
pub inside_statements : (sc : Scope) (ts : List Table) (t : Table) (after : Bool) (ss : Statements) (f : Option Fault)
    → table_of t ≡ with_labels [] (rules.list_labels ss)
    → found_statements sc (shown (ts ++ t ∷ [])) after ss f ≡ found_statements sc (with_list (shown ts) ss) after ss f
inside_statements sc ts t after ss f is = ap (λ (l : List ℕ → Bool). found_statements sc l after ss f) (shown_list ts t ss is)

pub inside_arms : (sc : Scope) (ts : List Table) (t : Table) (ss : Statements) (f : Option Fault)
    → table_of t ≡ with_labels [] (rules.list_labels ss)
    → found_arms sc (shown (ts ++ t ∷ [])) ss f ≡ found_arms sc (with_list (shown ts) ss) ss f
inside_arms sc ts t ss f is = ap (λ (l : List ℕ → Bool). found_arms sc l ss f) (shown_list ts t ss is)

pub ruleset insides = (inside_statements, inside_arms)

-- with no list around
pub outermost_statement : (sc : Scope) (ts : List Table) (after : Bool) (s : Statement) (f : Option Fault) → ts ≡ []
    → found_statement sc (shown ts) after s f ≡ found_statement sc (rules.has_name []) after s f
outermost_statement sc ts after s f none = ap (λ (us : List Table). found_statement sc (shown us) after s f) none

pub outermost_list : (sc : Scope) (ts : List Table) (after : Bool) (ss : Statements) (f : Option Fault) → ts ≡ []
    → found_statements sc (with_list (shown ts) ss) after ss f ≡ found_statements sc (rules.has_name (rules.list_labels ss)) after ss f
outermost_list sc ts after ss f none = ap (λ (us : List Table). found_statements sc (with_list (shown us) ss) after ss f) none

pub ruleset outermost = (outermost_statement, outermost_list)

-- ---- a label that stands again

-- behind labels in order, where the table has those before them, what is found is the first of their faults
pub seen_is : (t : n.Table n.Sort) (before : List Placed) (f : Option Fault) (xs : List Placed)
    → ((y : List ℕ) → has t y ≡ rules.is_listed before y) → (seen_all (t, f) xs).1 ≡ first_fault f (rules.repeated 20 before xs)
seen_is t before f [] h = refl
seen_is t before f (x ∷ xs) h =
    seen_is (declared t x.letters n.label) (x ∷ before) (first_fault f (unless (not (has t x.letters)) 20 x.at)) xs
    (λ y. has_declared t x.letters y ∙ ap (λ (b : Bool). if same_name y x.letters then true else b) (h y))
    ∙ ap (λ (b : Bool). first_fault (first_fault f (unless (not b) 20 x.at)) (rules.repeated 20 (x ∷ before) xs)) (h x.letters)
    ∙ sym (first_then f (unless (not (rules.is_listed before x.letters)) 20 x.at) (rules.repeated 20 (x ∷ before) xs))

-- in a body from its front on
pub seen_body : (f : Option Fault) (xs : List Placed) → (seen_all ([], f) xs).1 ≡ first_fault f (rules.repeated 20 [] xs)
seen_body f xs = seen_is [] [] f xs (λ y. refl)

-- so with any table that shows no label
pub seen_from_none : (t : Table) (g : Option Fault) (u : Table) (f : Option Fault) (xs : List Placed)
    → table_of u ≡ [] → seen t g ≡ seen_all (seen u f) xs → g ≡ first_fault f (rules.repeated 20 [] xs)
seen_from_none t g u f xs none is =
    ap (λ (s : Seen). s.1) is ∙ ap (λ (l : n.Table n.Sort). (seen_all (l, f) xs).1) none ∙ seen_body f xs
