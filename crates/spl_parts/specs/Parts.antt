-- Parts that were read, as the grammar's readings have them.
use Rattle.std.specs.Prelude.{◌+◌, List, map, Vec}
use Rattle.std.specs.declared.alloc.Global.{Global}
use Rattle.spl_tree.specs.declared.expressions.Expr.{Expr}
use Rattle.spl_tree.specs.Operators.{Form, reference, comparison, other}
use Rattle.spl_tree.specs.Trees as tree
use Rattle.spl_tree.specs.Views as view
use Rattle.spl_reading.specs.ReadExpressions as r
use Rattle.spl_parts.specs.declared.parts.Part.{Part}
use Rattle.spl_parts.specs.declared.parts.Part.TheVariants as part
use Rattle.spl_parts.specs.declared.parts.Found.{Found}

-- what the part is
abbrev pub form : Part → Form
form (part.Reference r) = reference
form (part.Comparison c) = comparison
form (part.Other e) = other

-- its tree; a relation has 5 more as an operator of two operands
abbrev pub tree_of : Part → tree.Tree
tree_of (part.Reference r) = view.reference r
tree_of (part.Comparison c) = tree.Tree.binary (5 + c.op) (view.reference c.left) (view.reference c.right) c.at
tree_of (part.Other e) = view.expression e

-- an operand, which has no operators of its own
unfoldable pub operand : Part → r.Found
operand p = record { count = 0; form = form p; tree = tree_of p }

-- a part behind its operators
unfoldable pub found : Found → r.Found
found f = record { count = f.count; form = form f.part; tree = tree_of f.part }

-- expressions in order
abbrev pub expressions : Vec Expr Global → List tree.Tree
expressions es = map view.expression es.items
