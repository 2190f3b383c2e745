-- Loops over indices and over arguments.
use Rattle.std.proofs.Common.{◌≡◌, drop, map}
use Rattle.spl_tree.specs.Views as view
use Rattle.spl_tree.specs.Trees.{trees}
use Rattle.spl_found.specs.FoundExpressions.{found_indices, found_arguments}
use Rattle.spl_sorts.specs.Profiles.{formal_of}
use Rattle.spl_uses.specs.Scopes.{scope_of}
use Rattle.spl_uses.proofs.expressions.+expressions.Given as goal

-- what is found from here in the indices that are left is what is found in all
abbrev pub invariant-indices-loop-index : goal.invariant-indices-loop-index
invariant-indices-loop-index l =
    found_indices (scope_of l.scope) (trees (map view.expression (drop l.index-index l.args))) l.at l.report
    ≡ found_indices (scope_of l.scope) (trees (map view.expression l.args)) l.at l.initial.report

-- what is found from here in the arguments that are left is what is found in all
abbrev pub invariant-arguments-loop-e : goal.invariant-arguments-loop-e
invariant-arguments-loop-e l =
    found_arguments (scope_of l.scope) (map formal_of l.formals) (trees (map view.expression (drop l.e-index l.args))) l.at l.report
    ≡ found_arguments (scope_of l.scope) (map formal_of l.initial.formals) (trees (map view.expression l.args)) l.at l.initial.report
