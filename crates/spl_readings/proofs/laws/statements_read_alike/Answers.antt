-- By walks over trees.
use Rattle.spl_readings.proofs.RunLemmas.{statements_alike}
use Rattle.spl_readings.proofs.laws.statements_read_alike.Goals as goal

pub returns : goal.returns
returns c = statements_alike
