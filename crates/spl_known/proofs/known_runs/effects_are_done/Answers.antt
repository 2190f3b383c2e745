use Rattle.spl_known.proofs.KnownEffect.{all_run}
use Rattle.spl_known.proofs.known_runs.effects_are_done.Goals as goal

-- each is computed
pub returns : goal.returns
returns c = all_run
