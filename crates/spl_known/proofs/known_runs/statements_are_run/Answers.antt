use Rattle.spl_known.proofs.KnownStatement.{all_run}
use Rattle.spl_known.proofs.known_runs.statements_are_run.Goals as goal

-- each is computed
pub returns : goal.returns
returns c = all_run
