use Rattle.spl_cuts.proofs.TextCuts.{bad_unique}
use Rattle.spl_cuts.proofs.laws.bad_pieces_are_unique.Goals as goal

-- both are what is read
pub returns : goal.returns
returns c = bad_unique
