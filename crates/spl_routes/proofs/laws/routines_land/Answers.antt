-- They are those of its declaration.
use Rattle.spl_routes.proofs.LandLemmas.{bodies_land}
use Rattle.spl_routes.proofs.laws.routines_land.Goals as goal

pub returns : goal.returns
returns c = bodies_land c.sound_routines_land.ensures
