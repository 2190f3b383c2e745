use Rattle.spl_frames.proofs.PartLaws.{parts_keep}
use Rattle.spl_frames.proofs.laws.parts_keep_frames.Goals as goal

-- whatever is known of words
pub returns : goal.returns
returns c = parts_keep
