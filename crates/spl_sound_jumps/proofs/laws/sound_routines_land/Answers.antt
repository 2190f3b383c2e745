-- Along the declarations of units.
use Rattle.spl_sound_jumps.proofs.JumpLaws.{routines_land}
use Rattle.spl_sound_jumps.proofs.laws.sound_routines_land.Goals as goal

pub returns : goal.returns
returns c = routines_land
