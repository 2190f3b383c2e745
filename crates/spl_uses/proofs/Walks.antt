-- Loops over indices and arguments: what is found from one of them on.
use Rattle.std.proofs.Common.{◌≡◌, ◌<◌, ◌≤◌, ℕ, ◌+◌, suc, List, ◌∷◌, map, drop, length, get_or, Option, refl, ap, sym, ◌∙◌, add-one}
use Rattle.std.proofs.Math.Seq.{drop-cons}
use Rattle.std.proofs.lemmas.List.{drop_all}
use Rattle.spl_tree.specs.declared.names_and_places.At.{At}
use Rattle.spl_tree.specs.declared.expressions.Expr.{Expr}
use Rattle.spl_tree.specs.Views as view
use Rattle.spl_tree.specs.Trees.{Tree, Trees, trees, and}
use Rattle.spl_sorts.specs.spl_meaning.Faults.{Fault, first_fault}
use Rattle.spl_sorts.specs.spl_meaning.Names.{Formal}
use Rattle.spl_sorts.specs.spl_meaning.Pending.{first_formal, other_formals}
use Rattle.spl_sorts.specs.spl_meaning.ExpressionRules.{Scope, single_faults, argument_faults}
use Rattle.spl_found.specs.FoundExpressions.{found, found_own, found_indices, found_arguments}

-- a list from one of its elements on
front : {X : Type 0} (xs : List X) (i : ℕ) (x : X) → i < length xs → x ≡ get_or xs i x → drop i xs ≡ x ∷ drop (i + 1) xs
front xs i x lt is = drop-cons xs i x lt ∙ ap (λ y. y ∷ drop (suc i) xs) (sym is) ∙ rw (add-one i) refl

index_turn : (sc : Scope) (e : Tree) (es : Trees) (at : At) (f : Option Fault)
    → found_indices sc (and e es) at f ≡ found_indices sc es at (first_fault (found sc at e f) (single_faults sc.names at e))
index_turn sc e es at f = unfold found_indices in refl

pub index_step : (sc : Scope) (list : List Expr) (i : ℕ) (e : Expr) (at : At) (f : Option Fault) → i < length list → e ≡ get_or list i e
    → found_indices sc (trees (map view.expression (drop i list))) at f
    ≡ found_indices sc (trees (map view.expression (drop (i + 1) list))) at (first_fault (found sc at (view.expression e) f) (single_faults sc.names at (view.expression e)))
index_step sc list i e at f lt is =
    ap (λ (es : List Expr). found_indices sc (trees (map view.expression es)) at f) (front list i e lt is)
    ∙ index_turn sc (view.expression e) (trees (map view.expression (drop (i + 1) list))) at f

pub indices_end : (sc : Scope) (list : List Expr) (i : ℕ) (at : At) (f : Option Fault) → length list ≤ i
    → found_indices sc (trees (map view.expression (drop i list))) at f ≡ f
indices_end sc list i at f le = ap (λ (es : List Expr). found_indices sc (trees (map view.expression es)) at f) (drop_all i list le) ∙ unfold found_indices in refl

argument_turn : (sc : Scope) (fs : List Formal) (e : Tree) (es : Trees) (at : At) (f : Option Fault)
    → found_arguments sc fs (and e es) at f
    ≡ found_arguments sc (other_formals fs) es at (first_fault (found_own sc (first_formal fs) e at f) (argument_faults sc.names (first_formal fs) e at))
argument_turn sc fs e es at f = unfold found_arguments in refl

pub argument_step : (sc : Scope) (fs : List Formal) (list : List Expr) (i : ℕ) (e : Expr) (at : At) (f : Option Fault) → i < length list → e ≡ get_or list i e
    → found_arguments sc fs (trees (map view.expression (drop i list))) at f
    ≡ found_arguments sc (other_formals fs) (trees (map view.expression (drop (i + 1) list))) at
    (first_fault (found_own sc (first_formal fs) (view.expression e) at f) (argument_faults sc.names (first_formal fs) (view.expression e) at))
argument_step sc fs list i e at f lt is =
    ap (λ (es : List Expr). found_arguments sc fs (trees (map view.expression es)) at f) (front list i e lt is)
    ∙ argument_turn sc fs (view.expression e) (trees (map view.expression (drop (i + 1) list))) at f

pub arguments_end : (sc : Scope) (fs : List Formal) (list : List Expr) (i : ℕ) (at : At) (f : Option Fault) → length list ≤ i
    → found_arguments sc fs (trees (map view.expression (drop i list))) at f ≡ f
arguments_end sc fs list i at f le = ap (λ (es : List Expr). found_arguments sc fs (trees (map view.expression es)) at f) (drop_all i list le) ∙ unfold found_arguments in refl

pub ruleset walks = (index_step, indices_end, argument_step, arguments_end)
