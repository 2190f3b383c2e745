-- Parameters are below the return word, and all else is where it was.
use Rattle.spl_near_places.proofs.Frames.{subroutines_near}
use Rattle.spl_near_places.proofs.laws.subroutines_are_near.Goals as goal

pub returns : goal.returns
returns c = subroutines_near
