use Rattle.spl_frames.proofs.SizeLaws.{values_fit}
use Rattle.spl_frames.proofs.laws.values_have_their_words.Goals as goal

-- kind by kind
pub returns : goal.returns
returns c = values_fit
