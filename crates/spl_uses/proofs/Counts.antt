-- The number of expressions in a list is its length.
use Rattle.std.proofs.Common.{◌≡◌, List, [], ◌∷◌, map, length, refl, arith}
use Rattle.spl_tree.specs.Trees.{Tree, trees}
use Rattle.spl_sorts.specs.spl_meaning.ExpressionRules.{count}

pub count_trees : {A : Type 0} (f : A → Tree) (es : List A) → count (trees (map f es)) ≡ length es
count_trees f [] = refl
count_trees f (e ∷ es) = rw (count_trees f es) (omega arith)

pub ruleset counts = count_trees
