-- Production by production.
use Rattle.spl_shapes.proofs.Units.{units_shaped}
use Rattle.spl_shapes.proofs.laws.spelled_units_are_shaped.Goals as goal

pub returns : goal.returns
returns c = units_shaped
