use Rattle.spl_known.proofs.KnownLimits.{all_limit, all_count, all_reach}
use Rattle.spl_known.proofs.known_rules.limits_are_counted.Goals as goal

-- each is computed
pub returns-clause-units : goal.returns-clause-units
returns-clause-units c = all_limit

pub returns-clause-counts : goal.returns-clause-counts
returns-clause-counts c = all_count

pub returns-clause-reach : goal.returns-clause-reach
returns-clause-reach c = all_reach
