-- By the truth of the test.
use Rattle.spl_control.proofs.ControlLemmas.{choices}
use Rattle.spl_control.proofs.laws.choices_follow.Goals as goal

pub returns : goal.returns
returns c = choices
