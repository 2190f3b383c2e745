-- Parameters and the result alone stand below the return word, and their reach is counted among the limits.
use Rattle.spl_seen.proofs.Allowed.{inner_allowed}
use Rattle.spl_seen.proofs.laws.inner_uses_are_allowed.Goals as goal

pub returns : goal.returns
returns c = inner_allowed
