use Rattle.spl_cuts.proofs.TextCuts.{cuts_unique}
use Rattle.spl_cuts.proofs.laws.cuts_are_unique.Goals as goal

-- both are what is read
pub returns : goal.returns
returns c = cuts_unique
