-- By walks over trees.
use Rattle.spl_readings.proofs.RunLemmas.{bodies_alike}
use Rattle.spl_readings.proofs.laws.bodies_read_alike.Goals as goal

pub returns : goal.returns
returns c = bodies_alike
