-- One after the other.
use Rattle.spl_safe_values.proofs.ValueLemmas.{arguments_safe}
use Rattle.spl_safe_values.proofs.laws.arguments_are_safe.Goals as goal

pub returns : goal.returns
returns c = arguments_safe
