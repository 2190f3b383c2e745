use Rattle.spl_cuts.proofs.WholeLemmas.{cut_whole}
use Rattle.spl_cuts.proofs.laws.cuts_are_whole.Goals as goal

-- by the pieces of the text, in order
pub returns : goal.returns
returns c = cut_whole
