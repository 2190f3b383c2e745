-- By the way out, and again with a lower bound.
use Rattle.spl_control.proofs.ControlLemmas.{landings}
use Rattle.spl_control.proofs.laws.landings_follow.Goals as goal

pub returns : goal.returns
returns c = landings
