-- Target by target.
use Rattle.spl_safe_effects.proofs.AssignLemmas.{assignments_safe, stored_effects_safe}
use Rattle.spl_safe_effects.proofs.laws.assignments_are_safe.Goals as goal

pub returns-clause-values : goal.returns-clause-values
returns-clause-values c = assignments_safe

pub returns-clause-answers : goal.returns-clause-answers
returns-clause-answers c = stored_effects_safe
