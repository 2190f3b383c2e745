-- By the lists of subroutines.
use Rattle.spl_inners.proofs.LandLemmas.{inners_land}
use Rattle.spl_inners.proofs.laws.inners_land.Goals as goal

pub returns : goal.returns
returns c = inners_land
