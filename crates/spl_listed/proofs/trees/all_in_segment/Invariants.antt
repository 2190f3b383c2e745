use Rattle.std.proofs.Common.{◌≡◌, map}
use Rattle.spl_tree.specs.Spells.{declaration}
use Rattle.spl_reading.specs.ReadDeclarations.{of_segment}
use Rattle.spl_listed.specs.Lists as lists
use Rattle.spl_listed.proofs.trees.all_in_segment.Given as goal

-- the declarations so far, in the segment
abbrev pub invariant-loop-declaration : goal.invariant-loop-declaration
invariant-loop-declaration l = lists.declarations l.placed ≡ map (of_segment l.segment) (map declaration l.yielded)
