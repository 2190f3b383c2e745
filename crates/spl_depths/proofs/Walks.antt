-- Loops over arguments: what waits from one of them on.
use Rattle.std.proofs.Common.{◌≡◌, ◌<◌, ◌≤◌, ℕ, ◌+◌, max, List, map, drop, length, get_or, arith}
use Rattle.spl_tree.specs.declared.expressions.Expr.{Expr}
use Rattle.spl_tree.specs.Views as view
use Rattle.spl_tree.specs.Trees.{Tree, trees, and, none}
use Rattle.spl_sorts.specs.spl_meaning.Names.{Names, Formal}
use Rattle.spl_sorts.specs.spl_meaning.Pending.{most, most_of, first_formal, other_formals, argument_words}
use Rattle.spl_spots.proofs.ListWalks.{onward, onward_end}

pub argument_step : (names : Names) (fs : List Formal) (k : ℕ) (list : List Expr) (i : ℕ) (e : Expr) → i < length list → e ≡ get_or list i e
    → most_of names fs k (trees (map view.expression (drop i list)))
    ≡ max (k + most names (view.expression e)) (most_of names (other_formals fs) (k + argument_words (first_formal fs)) (trees (map view.expression (drop (i + 1) list))))
argument_step names fs k list i e lt is = onward view.expression (λ es. most_of names fs k (trees es)) list i e lt is

pub arguments_end : (names : Names) (fs : List Formal) (k : ℕ) (list : List Expr) (i : ℕ) → length list ≤ i
    → most_of names fs k (trees (map view.expression (drop i list))) ≡ 0
arguments_end names fs k list i le = onward_end view.expression (λ es. most_of names fs k (trees es)) list i le

pub ruleset walks = (argument_step, arguments_end)

-- one expression in a list, and none
pub one_waits : (names : Names) (fs : List Formal) (k : ℕ) (e : Tree) → most_of names fs k (and e none) ≡ k + most names e
one_waits names fs k e = omega arith

pub ruleset ones = one_waits
