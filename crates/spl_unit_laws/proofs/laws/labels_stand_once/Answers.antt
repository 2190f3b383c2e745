-- By induction on the units.
use Rattle.spl_unit_laws.proofs.Modules.{once}
use Rattle.spl_unit_laws.proofs.laws.labels_stand_once.Goals as goal

pub returns : goal.returns
returns c = once
