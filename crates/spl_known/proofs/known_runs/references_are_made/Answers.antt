use Rattle.spl_known.proofs.KnownReference.{all_run}
use Rattle.spl_known.proofs.known_runs.references_are_made.Goals as goal

-- each is computed
pub returns : goal.returns
returns c = all_run
