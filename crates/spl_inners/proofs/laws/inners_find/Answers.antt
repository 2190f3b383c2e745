-- By the entries of modules and the order of subroutines.
use Rattle.spl_inners.proofs.StandLemmas.{inner_finds}
use Rattle.spl_inners.proofs.laws.inners_find.Goals as goal

pub returns : goal.returns
returns c = inner_finds
