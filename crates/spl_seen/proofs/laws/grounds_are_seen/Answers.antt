-- Where code is made of the names one that is called stands at its result, and all others stand where they did.
use Rattle.spl_seen.proofs.Grounded.{seen}
use Rattle.spl_seen.proofs.laws.grounds_are_seen.Goals as goal

pub returns : goal.returns
returns c = seen
