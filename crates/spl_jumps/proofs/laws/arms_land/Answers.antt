-- Jump by jump, over the branch behind an arm.
use Rattle.spl_jumps.proofs.ArmLemmas.{no_arm_at, arm_at, arms_land}
use Rattle.spl_jumps.proofs.laws.arms_land.Goals as goal

pub returns-clause-none : goal.returns-clause-none
returns-clause-none c = no_arm_at

pub returns-clause-more : goal.returns-clause-more
returns-clause-more c = arm_at

pub returns-clause-lands : goal.returns-clause-lands
returns-clause-lands c = arms_land
