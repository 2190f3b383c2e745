-- The trees of numbers.
use Rattle.std.proofs.Common.{ℕ, ◌≡◌, ap, sym, ◌∙◌}
use Rattle.spl_tree.specs.declared.expressions.Expr as expr
use Rattle.spl_tree.specs.declared.expressions.Expr.TheVariants.{rolls-Number, rolls-Wide}
use Rattle.spl_tree.specs.declared.expressions.Expr.TheFolds.{fold-roll-Expr}
use Rattle.spl_tree.specs.Trees as tree
use Rattle.spl_tree.specs.Trees.{Tree}
use Rattle.spl_tree.specs.Views.{expression, expression_step, reference_step}

pub number_tree : (v : ℕ) → expression (expr.Number v) ≡ tree.Tree.number v
number_tree v = ap expression (sym (rolls-Number v)) ∙ fold-roll-Expr Tree Tree expression_step reference_step _

pub wide_tree : (v : ℕ) → expression (expr.Wide v) ≡ tree.Tree.wide v
wide_tree v = ap expression (sym (rolls-Wide v)) ∙ fold-roll-Expr Tree Tree expression_step reference_step _
