use Rattle.spl_known.proofs.KnownCall.{all_run}
use Rattle.spl_known.proofs.known_runs.calls_are_done.Goals as goal

-- each is computed
pub returns : goal.returns
returns c = all_run
