-- Part by part.
use Rattle.spl_gen_body.proofs.FrameLaws.{frame_is}
use Rattle.spl_gen_body.proofs.laws.frames_are_of_bodies.Goals as goal

pub returns : goal.returns
returns c = frame_is
