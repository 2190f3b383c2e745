-- A load goes on until the area is empty at the latest.
use Rattle.mpe_regions.proofs.LoadLemmas.{loaded}
use Rattle.mpe_regions.proofs.laws.small_ones_are_loaded.Goals as goal

pub returns : goal.returns
returns c = λ a key size sound absent some le. loaded a key size sound absent some le
