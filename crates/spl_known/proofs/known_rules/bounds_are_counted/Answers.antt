use Rattle.spl_known.proofs.KnownBounds.{all_bound}
use Rattle.spl_known.proofs.known_rules.bounds_are_counted.Goals as goal

-- each is computed
pub returns : goal.returns
returns c = all_bound
