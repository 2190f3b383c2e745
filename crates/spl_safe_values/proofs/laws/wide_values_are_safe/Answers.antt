-- Along the tree.
use Rattle.spl_safe_values.proofs.ValueLemmas.{wide_safe}
use Rattle.spl_safe_values.proofs.laws.wide_values_are_safe.Goals as goal

pub returns : goal.returns
returns c = wide_safe
