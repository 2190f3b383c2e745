-- Statement by statement.
use Rattle.spl_sound_bodies.proofs.Plain.{list_plain}
use Rattle.spl_sound_bodies.proofs.laws.sound_lists_are_plain.Goals as goal

pub returns : goal.returns
returns c = list_plain
