-- Along the tree.
use Rattle.spl_safe_values.proofs.ValueLemmas.{covered_safe}
use Rattle.spl_safe_values.proofs.laws.covered_values_are_safe.Goals as goal

pub returns : goal.returns
returns c = covered_safe
