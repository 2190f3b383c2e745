-- Along the tree.
use Rattle.spl_covered.proofs.CoverLemmas.{wide_whole, wide_gives}
use Rattle.spl_covered.proofs.laws.wide_values_simulate.Goals as goal

pub returns-clause-whole : goal.returns-clause-whole
returns-clause-whole c = wide_whole

pub returns-clause-value : goal.returns-clause-value
returns-clause-value c = wide_gives
