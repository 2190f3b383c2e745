use Rattle.spl_frames.proofs.UseLaws.{cover_uses}
use Rattle.spl_frames.proofs.laws.depths_cover_uses.Goals as goal

-- part by part
pub returns : goal.returns
returns c = cover_uses
