-- BRE deletes what it tests.
use Rattle.spl_conditions.proofs.ConditionLemmas.{closed_values}
use Rattle.spl_conditions.proofs.laws.closed_values_simulate.Goals as goal

pub returns : goal.returns
returns c = closed_values
