-- By whom the name calls.
use Rattle.spl_whom.proofs.CallLemmas.{named_whole, named_gives}
use Rattle.spl_whom.proofs.laws.named_calls_simulate.Goals as goal

pub returns-clause-whole : goal.returns-clause-whole
returns-clause-whole c = named_whole

pub returns-clause-simulates : goal.returns-clause-simulates
returns-clause-simulates c = named_gives
