-- Along the lists of units and of their procedures.
use Rattle.spl_sound_jumps.proofs.JumpLaws.{inners_land}
use Rattle.spl_sound_jumps.proofs.laws.sound_inners_land.Goals as goal

pub returns : goal.returns
returns c = inners_land
