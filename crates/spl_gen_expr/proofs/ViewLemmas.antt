-- The trees of expressions, one layer at a time.
use Rattle.std.proofs.Common.{ℕ, ◌≡◌, ap, sym, ◌∙◌, Box, Global}
use Rattle.spl_tree.specs.declared.names_and_places.At.{At}
use Rattle.spl_tree.specs.declared.expressions.Kind.{Kind}
use Rattle.spl_tree.specs.declared.expressions.Const.{Const}
use Rattle.spl_tree.specs.declared.expressions.Ref.{Ref}
use Rattle.spl_tree.specs.declared.expressions.Expr.{Expr}
use Rattle.spl_tree.specs.declared.expressions.Expr as expr
use Rattle.spl_tree.specs.declared.expressions.Expr.TheVariants.{rolls-Binary, rolls-Bytes, rolls-Shift, rolls-Field, rolls-Transfer}
use Rattle.spl_tree.specs.declared.expressions.Expr.TheFolds.{fold-roll-Expr}
use Rattle.spl_tree.specs.Trees as tree
use Rattle.spl_tree.specs.Trees.{Tree}
use Rattle.spl_tree.specs.Views.{constant, expression, reference, expression_step, reference_step}

pub binary_tree : (op : ℕ) (a b : Box Expr Global) (at : At) → expression (expr.Binary op a b at) ≡ tree.Tree.binary op (expression a.value) (expression b.value) at
binary_tree op a b at = ap expression (sym (rolls-Binary op a b at)) ∙ fold-roll-Expr Tree Tree expression_step reference_step _

pub bytes_tree : (op : ℕ) (l r : Ref) (b : Box Expr Global) (at : At)
    → expression (expr.Bytes op l r b at) ≡ tree.Tree.bytes op (reference l) (reference r) (expression b.value) at
bytes_tree op l r b at = ap expression (sym (rolls-Bytes op l r b at)) ∙ fold-roll-Expr Tree Tree expression_step reference_step _

pub shift_tree : (op : ℕ) (a : Box Expr Global) (by : Const) (at : At) → expression (expr.Shift op a by at) ≡ tree.Tree.shift op (expression a.value) (constant by) at
shift_tree op a by at = ap expression (sym (rolls-Shift op a by at)) ∙ fold-roll-Expr Tree Tree expression_step reference_step _

pub field_tree : (a : Box Expr Global) (start size : Const) (at : At)
    → expression (expr.Field a start size at) ≡ tree.Tree.field (expression a.value) (constant start) (constant size) at
field_tree a start size at = ap expression (sym (rolls-Field a start size at)) ∙ fold-roll-Expr Tree Tree expression_step reference_step _

pub transfer_tree : (to : Kind) (a : Box Expr Global) (at : At) → expression (expr.Transfer to a at) ≡ tree.Tree.transfer to (expression a.value) at
transfer_tree to a at = ap expression (sym (rolls-Transfer to a at)) ∙ fold-roll-Expr Tree Tree expression_step reference_step _
