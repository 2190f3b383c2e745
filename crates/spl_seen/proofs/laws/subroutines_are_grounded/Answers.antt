-- Its parameters stand before the names around it, of which so much is known.
use Rattle.spl_seen.proofs.Grounded.{inner_grounded}
use Rattle.spl_seen.proofs.laws.subroutines_are_grounded.Goals as goal

pub returns : goal.returns
returns c = inner_grounded
