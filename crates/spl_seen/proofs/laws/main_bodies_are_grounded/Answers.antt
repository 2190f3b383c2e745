-- Unit by unit: all its names are those of the list of the unit.
use Rattle.spl_seen.proofs.Grounded.{main_grounded}
use Rattle.spl_seen.proofs.laws.main_bodies_are_grounded.Goals as goal

pub returns : goal.returns
returns c = main_grounded
