use Rattle.spl_frames.proofs.EntryLaws.{openings_have}
use Rattle.spl_frames.proofs.laws.openings_have_their_words.Goals as goal

-- what is set is what was zero
pub returns : goal.returns
returns c = openings_have
