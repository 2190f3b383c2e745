-- By what the gate does.
use Rattle.spl_endings.proofs.GateLemmas.{last_ends}
use Rattle.spl_endings.proofs.laws.last_calls_end.Goals as goal

pub returns : goal.returns
returns c = last_ends
