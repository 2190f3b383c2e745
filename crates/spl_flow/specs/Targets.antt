-- The index of a reference by itself.
use Rattle.std.specs.Prelude.{Option}
use Rattle.spl_tree.specs.Trees as tree
use Rattle.spl_tree.specs.Trees.{Tree}
use Rattle.spl_sorts.specs.spl_meaning.Faults.{Fault}
use Rattle.spl_sorts.specs.spl_meaning.ExpressionRules.{Scope}
use Rattle.spl_found.specs.FoundExpressions.{found_indices}

-- what is found along its index
abbrev pub found_index : Scope → Tree → Option Fault → Option Fault
found_index sc (tree.Tree.named x es at) f = found_indices sc es at f
found_index sc _ f = f
