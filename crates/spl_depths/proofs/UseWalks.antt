-- Loops over arguments: the first limit from one of them on.
use Rattle.std.proofs.Common.{◌≡◌, ◌<◌, ◌≤◌, ℕ, ◌+◌, List, map, drop, length, get_or, Option, refl, ◌∙◌}
use Rattle.spl_tree.specs.declared.expressions.Expr.{Expr}
use Rattle.spl_tree.specs.Views as view
use Rattle.spl_tree.specs.Trees.{Tree, Trees, trees, and}
use Rattle.spl_sorts.specs.spl_meaning.Names.{Names, Formal}
use Rattle.spl_sorts.specs.spl_meaning.Pending.{first_formal, other_formals, argument_words}
use Rattle.spl_sorts.specs.spl_meaning.Limits.{Full}
use Rattle.spl_depths.specs.Reach.{Reach}
use Rattle.spl_depths.specs.Reached.{reached, reached_among}
use Rattle.spl_spots.proofs.ListWalks.{onward, onward_end}

argument_turn : (names : Names) (r : Reach) (fs : List Formal) (e : Tree) (es : Trees) (k : ℕ) (f : Option Full)
    → reached_among names r fs (and e es) k f
    ≡ reached_among names r (other_formals fs) es (k + argument_words (first_formal fs)) (reached names r e k f)
argument_turn names r fs e es k f = unfold reached_among in refl

pub argument_step : (names : Names) (r : Reach) (fs : List Formal) (k : ℕ) (list : List Expr) (i : ℕ) (e : Expr) (f : Option Full)
    → i < length list → e ≡ get_or list i e
    → reached_among names r fs (trees (map view.expression (drop i list))) k f
    ≡ reached_among names r (other_formals fs) (trees (map view.expression (drop (i + 1) list))) (k + argument_words (first_formal fs))
    (reached names r (view.expression e) k f)
argument_step names r fs k list i e f lt is =
    onward view.expression (λ es. reached_among names r fs (trees es) k f) list i e lt is
    ∙ argument_turn names r fs (view.expression e) (trees (map view.expression (drop (i + 1) list))) k f

pub arguments_end : (names : Names) (r : Reach) (fs : List Formal) (k : ℕ) (list : List Expr) (i : ℕ) (f : Option Full) → length list ≤ i
    → reached_among names r fs (trees (map view.expression (drop i list))) k f ≡ f
arguments_end names r fs k list i f le =
    onward_end view.expression (λ es. reached_among names r fs (trees es) k f) list i le ∙ unfold reached_among in refl

pub ruleset walks = (argument_step, arguments_end)
