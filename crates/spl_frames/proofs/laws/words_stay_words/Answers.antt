use Rattle.spl_frames.proofs.WordRuns.{words_stay}
use Rattle.spl_frames.proofs.laws.words_stay_words.Goals as goal

-- sixteen bits are kept
pub returns : goal.returns
returns c = words_stay
