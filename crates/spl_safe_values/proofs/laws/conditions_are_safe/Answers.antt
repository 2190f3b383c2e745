-- The value, and its one word.
use Rattle.spl_safe_values.proofs.ValueLemmas.{conditions_safe}
use Rattle.spl_safe_values.proofs.laws.conditions_are_safe.Goals as goal

pub returns : goal.returns
returns c = conditions_safe
