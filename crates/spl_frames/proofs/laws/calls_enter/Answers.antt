use Rattle.spl_frames.proofs.EntryLaws.{calls_enter}
use Rattle.spl_frames.proofs.laws.calls_enter.Goals as goal

-- by the room and the steps
pub returns : goal.returns
returns c = calls_enter
