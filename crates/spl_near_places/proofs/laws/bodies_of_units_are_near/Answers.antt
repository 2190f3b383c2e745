-- Unit by unit, and procedure by procedure.
use Rattle.spl_near_places.proofs.Units.{bodies_near}
use Rattle.spl_near_places.proofs.laws.bodies_of_units_are_near.Goals as goal

pub returns : goal.returns
returns c = bodies_near
