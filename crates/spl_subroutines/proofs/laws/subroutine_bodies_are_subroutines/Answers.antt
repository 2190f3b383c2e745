-- A depth is eight and more.
use Rattle.std.proofs.Common.{arith}
use Rattle.spl_subroutines.proofs.laws.subroutine_bodies_are_subroutines.Goals as goal

pub returns : goal.returns
returns c b y few = record { few = few; deep = omega arith }
