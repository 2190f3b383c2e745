-- The tree of an address with its index.
use Rattle.std.proofs.Common.{◌≡◌, ap, sym, ◌∙◌, Some, [], ◌∷◌, Box, Global}
use Rattle.spl_tree.specs.declared.names_and_places.Name.{Name}
use Rattle.spl_tree.specs.declared.names_and_places.At.{At}
use Rattle.spl_tree.specs.declared.expressions.Expr.{Expr}
use Rattle.spl_tree.specs.declared.expressions.Expr as expr
use Rattle.spl_tree.specs.declared.expressions.Expr.TheVariants.{rolls-Address}
use Rattle.spl_tree.specs.declared.expressions.Expr.TheFolds.{fold-roll-Expr}
use Rattle.spl_tree.specs.Trees as tree
use Rattle.spl_tree.specs.Trees.{Tree, trees}
use Rattle.spl_tree.specs.Views.{letters, expression, expression_step, reference_step}

pub element_tree : (name : Name) (b : Box Expr Global) (at : At)
    → expression (expr.Address name (Some b) at) ≡ tree.Tree.address (letters name) (trees
    (expression b.value ∷ [])) at
element_tree name b at = ap expression (sym (rolls-Address name (Some b) at))
    ∙ fold-roll-Expr Tree Tree expression_step reference_step _
