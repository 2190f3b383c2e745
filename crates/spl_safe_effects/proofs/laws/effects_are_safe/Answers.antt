-- Element by element.
use Rattle.spl_safe_effects.proofs.MoveLemmas.{effects_safe}
use Rattle.spl_safe_effects.proofs.laws.effects_are_safe.Goals as goal

pub returns : goal.returns
returns c = effects_safe
