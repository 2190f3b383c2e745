-- Its declaration is among those of its unit, and its code is a part of the module's.
use Rattle.spl_routines.proofs.RoutineLemmas.{routines_stand, routines_are_there}
use Rattle.spl_routines.proofs.laws.routines_stand.Goals as goal

pub returns-clause-in_modules : goal.returns-clause-in_modules
returns-clause-in_modules c = routines_stand

pub returns-clause-somewhere : goal.returns-clause-somewhere
returns-clause-somewhere c = routines_are_there
