-- By what the name stands for.
use Rattle.spl_safe_effects.proofs.AssignLemmas.{call_statements_safe}
use Rattle.spl_safe_effects.proofs.laws.call_statements_are_safe.Goals as goal

pub returns : goal.returns
returns c = call_statements_safe
