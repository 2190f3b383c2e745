-- By its number among the procedures of its unit: the walk over the list of the unit keeps what the rules say of it.
use Rattle.spl_ruled_bodies.proofs.Units.{routines_ruled}
use Rattle.spl_ruled_bodies.proofs.laws.routines_are_ruled.Goals as goal

pub returns : goal.returns
returns c = routines_ruled
