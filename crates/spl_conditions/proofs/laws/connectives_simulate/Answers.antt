-- By which side decides.
use Rattle.spl_conditions.proofs.ConnectiveLemmas.{connectives}
use Rattle.spl_conditions.proofs.laws.connectives_simulate.Goals as goal

pub returns : goal.returns
returns c = connectives
