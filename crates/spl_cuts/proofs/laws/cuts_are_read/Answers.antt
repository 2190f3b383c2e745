use Rattle.spl_cuts.proofs.TextReads.{cuts_read}
use Rattle.spl_cuts.proofs.laws.cuts_are_read.Goals as goal

-- along the pieces
pub returns : goal.returns
returns c = cuts_read
