-- By its number: its own list stands before the names around it.
use Rattle.spl_seen.proofs.Grounded.{routine_grounded}
use Rattle.spl_seen.proofs.laws.routines_are_grounded.Goals as goal

pub returns : goal.returns
returns c = routine_grounded
