use Rattle.spl_cuts.proofs.TextCuts.{texts_cut}
use Rattle.spl_cuts.proofs.laws.texts_are_cut.Goals as goal

-- by induction on the text
pub returns : goal.returns
returns c = texts_cut
