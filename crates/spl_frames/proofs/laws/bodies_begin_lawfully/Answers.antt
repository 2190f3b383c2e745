use Rattle.spl_frames.proofs.EntryLaws.{begin_lawfully}
use Rattle.spl_frames.proofs.laws.bodies_begin_lawfully.Goals as goal

-- word by word
pub returns : goal.returns
returns c = begin_lawfully
