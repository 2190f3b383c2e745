-- What is appended with the arguments from here on is all.
use Rattle.std.proofs.Common.{map, drop}
use Rattle.spl_tree.specs.Views as view
use Rattle.spl_tree.specs.Trees.{trees}
use Rattle.spl_sorts.specs.Profiles.{formal_of}
use Rattle.spl_branch.specs.declared.buffer.Code.{Code}
use Rattle.spl_operations.specs.spl_code.Code.{arguments}
use Rattle.spl_operations.specs.spl_code.Appends.{Appends}
use Rattle.spl_code_scopes.specs.Scopes.{scope_of}
use Rattle.spl_gen_expr.proofs.expressions.+expressions.Given as goal

abbrev pub invariant-arguments-loop-e : goal.invariant-arguments-loop-e
invariant-arguments-loop-e l =
    (d : Code)
    → Appends (arguments (scope_of l.scope) (map formal_of l.formals) (trees (map view.expression (drop l.e-index l.args))) l.waiting) l.code d
    → Appends (arguments (scope_of l.scope) (map formal_of l.initial.formals) (trees (map view.expression l.args)) l.initial.waiting) l.fn.code d
