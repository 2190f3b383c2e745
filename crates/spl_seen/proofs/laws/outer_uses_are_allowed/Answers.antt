-- Nothing stands below a return word there.
use Rattle.spl_seen.proofs.Allowed.{outer_allowed}
use Rattle.spl_seen.proofs.laws.outer_uses_are_allowed.Goals as goal

pub returns : goal.returns
returns c = outer_allowed
