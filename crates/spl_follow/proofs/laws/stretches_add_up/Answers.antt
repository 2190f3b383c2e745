-- Each field is a sum, or one list behind another.
use Rattle.spl_follow.proofs.WayLemmas.{goes_on}
use Rattle.spl_follow.proofs.laws.stretches_add_up.Goals as goal

pub returns : goal.returns
returns c = goes_on
