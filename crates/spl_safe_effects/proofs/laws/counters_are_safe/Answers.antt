-- Its location is that of an INTEGER.
use Rattle.spl_safe_effects.proofs.CountLemmas.{counters_safe}
use Rattle.spl_safe_effects.proofs.laws.counters_are_safe.Goals as goal

pub returns : goal.returns
returns c = counters_safe
