-- The regions lie between place 0 and the size.
use Rattle.mpe_regions.proofs.PlaceLemmas.{find-within}
use Rattle.mpe_regions.proofs.laws.regions_lie_inside.Goals as goal

pub returns : goal.returns
returns c = λ a key r sound found. (find-within key 0 a.size a.list r sound.laid_out found).2
