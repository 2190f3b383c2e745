-- Parts of what waits in statements: what stands before the body of a FOR, and statements in which no other stands.
use Rattle.std.specs.Prelude.{ℕ, ◌+◌, max, true, false}
use Rattle.spl_tree.specs.Trees as tree
use Rattle.spl_tree.specs.Trees.{Tree, Trees}
use Rattle.spl_tree.specs.StatementTrees as stat
use Rattle.spl_tree.specs.StatementTrees.{Statement}
use Rattle.spl_sorts.specs.spl_meaning.Names.{Names}
use Rattle.spl_sorts.specs.spl_meaning.Pending.{most, trees_most, target_most, waiting, effect_most}

-- the first value, the step and the last value of a FOR
abbrev pub head_most : Names → Tree → Trees → Tree → ℕ
head_most names first step last = max (most names first) (max (1 + trees_most names step) (2 + most names last))

-- an assignment, a MOVE or a SCAN, or a call
abbrev pub simple_most : Names → Statement → ℕ
simple_most names (stat.Statement.assign to e at) = max (target_most names to) (waiting to (most names e))
simple_most names (stat.Statement.assign_effect to e at) = max (target_most names to) (waiting to (effect_most names true e))
simple_most names (stat.Statement.do_effect e at) = effect_most names false e
simple_most names (stat.Statement.call x es at) = most names (tree.Tree.named x es at)
simple_most names s = 0
