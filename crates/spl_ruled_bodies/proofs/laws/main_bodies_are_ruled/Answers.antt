-- Unit by unit: the list of the unit and the statements of its main body break no rule.
use Rattle.spl_ruled_bodies.proofs.Units.{mains_are_ruled}
use Rattle.spl_ruled_bodies.proofs.laws.main_bodies_are_ruled.Goals as goal

pub returns : goal.returns
returns c = mains_are_ruled
