-- Along the tree.
use Rattle.spl_sound_jumps.proofs.JumpLaws.{bodies_land, mains_land}
use Rattle.spl_sound_jumps.proofs.laws.sound_jumps_land.Goals as goal

pub returns-clause-body : goal.returns-clause-body
returns-clause-body c = bodies_land

pub returns-clause-mains : goal.returns-clause-mains
returns-clause-mains c = mains_land
