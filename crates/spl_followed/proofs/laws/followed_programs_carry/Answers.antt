-- Both ways are open for each seat.
use Rattle.spl_followed.proofs.WayLaws.{carry}
use Rattle.spl_followed.proofs.laws.followed_programs_carry.Goals as goal

pub returns : goal.returns
returns c = carry
