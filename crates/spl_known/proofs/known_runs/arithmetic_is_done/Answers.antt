use Rattle.spl_known.proofs.KnownArithmetic.{all_run}
use Rattle.spl_known.proofs.known_runs.arithmetic_is_done.Goals as goal

-- each is computed
pub returns : goal.returns
returns c = all_run
