use Rattle.std.proofs.Common.{refl, arith}
use Rattle.mpe_regions.specs.declared.regions.Regions.TheInside.{Inside}
use Rattle.mpe_regions.proofs.TableAfter.{fresh_is}
use Rattle.mpe_regions.proofs.regions.Regions.make.Goals as goal

-- no region yet, and all nodes are free
pub invariant_of-result : goal.invariant_of-result
invariant_of-result c =
    let made : Inside = record {
      size = c.args.size;
      nodes = c.in_ok-table.table.nodes;
      first = 65535;
      oldest = 65535;
      newest = 65535;
      free = c.in_ok-table.table.free;
      guesses = c.in_ok-guesses.guesses;
    } in
    fresh_is made c.args.nodes c.in_ok-table.ensures (omega arith) refl refl refl c.in_ok-guesses.ensures
