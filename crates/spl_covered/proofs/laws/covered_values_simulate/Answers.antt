-- Along the tree.
use Rattle.spl_covered.proofs.CoverLemmas.{covered_whole, covered_gives}
use Rattle.spl_covered.proofs.laws.covered_values_simulate.Goals as goal

pub returns-clause-whole : goal.returns-clause-whole
returns-clause-whole c = covered_whole

pub returns-clause-value : goal.returns-clause-value
returns-clause-value c = covered_gives
