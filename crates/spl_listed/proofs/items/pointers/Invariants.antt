use Rattle.std.proofs.Common.{◌≡◌, map}
use Rattle.spl_tree.specs.Declarations.{pointers}
use Rattle.spl_tree.specs.Spells.{placed}
use Rattle.spl_listed.specs.Lists as lists
use Rattle.spl_listed.proofs.items.pointers.Given as goal

-- the pointers of the names so far
abbrev pub invariant-loop-name : goal.invariant-loop-name
invariant-loop-name l = lists.items l.items ≡ pointers (map placed l.yielded)
