use Rattle.mpe_regions.specs.Fresh.{IsFresh}
use Rattle.mpe_regions.proofs.tables.free_nodes.Given as goal

abbrev pub invariant-loop-i : goal.invariant-loop-i
invariant-loop-i l = IsFresh l.nodes.items l.free l.i
