-- By induction on the units.
use Rattle.spl_unit_laws.proofs.Modules.{modules_made}
use Rattle.spl_unit_laws.proofs.laws.units_are_made.Goals as goal

pub returns : goal.returns
returns c = modules_made
