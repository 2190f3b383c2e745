-- How many words some segments may have, computed.
use Rattle.std.proofs.Common.{refl}
use Rattle.spl_known.specs.Programs.{AllBoundsSo}
use Rattle.spl_known.specs.BoundRuns.{bound_runs}
use Rattle.spl_known.proofs.Computing.{all}

pub all_bound : AllBoundsSo bound_runs
unfolding all
all_bound = (refl, (refl, (refl, (refl, (refl, tt)))))
