-- The regions lie one behind the other.
use Rattle.mpe_regions.proofs.PlaceLemmas.{find-apart}
use Rattle.mpe_regions.proofs.laws.regions_lie_apart.Goals as goal

pub returns : goal.returns
returns c = λ a j k r s sound ne one other. find-apart j k 0 a.size a.list r s ne sound.laid_out one other
