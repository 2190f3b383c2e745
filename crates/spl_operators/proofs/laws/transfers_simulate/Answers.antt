-- By both kinds.
use Rattle.spl_operators.proofs.SingleLemmas.{transfers}
use Rattle.spl_operators.proofs.laws.transfers_simulate.Goals as goal

pub returns : goal.returns
returns c = transfers
