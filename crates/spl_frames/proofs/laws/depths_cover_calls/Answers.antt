use Rattle.spl_frames.proofs.CallLaws.{cover_calls}
use Rattle.spl_frames.proofs.laws.depths_cover_calls.Goals as goal

-- part by part
pub returns : goal.returns
returns c = cover_calls
