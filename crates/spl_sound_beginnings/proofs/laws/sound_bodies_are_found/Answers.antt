-- Statement by statement.
use Rattle.spl_sound_beginnings.proofs.Bodies.{body_found}
use Rattle.spl_sound_beginnings.proofs.laws.sound_bodies_are_found.Goals as goal

pub returns : goal.returns
returns c = body_found
