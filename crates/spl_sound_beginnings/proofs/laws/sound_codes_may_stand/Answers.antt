-- By the laws of beginnings, of kinds and of complete codes.
use Rattle.spl_sound_beginnings.proofs.Units.{sound_may_stand}
use Rattle.spl_sound_beginnings.proofs.laws.sound_codes_may_stand.Goals as goal

pub returns : goal.returns
returns c = sound_may_stand
