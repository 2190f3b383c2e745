use Rattle.spl_known.proofs.KnownLost.{all_lost}
use Rattle.spl_known.proofs.known_runs.losses_are_told.Goals as goal

-- each is computed
pub returns : goal.returns
returns c = all_lost
