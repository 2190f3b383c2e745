-- Behind the first step nothing is met.
use Rattle.spl_follow.proofs.WayLemmas.{lead_printing}
use Rattle.spl_follow.proofs.laws.pieces_are_met.Goals as goal

pub returns : goal.returns
returns c = lead_printing
