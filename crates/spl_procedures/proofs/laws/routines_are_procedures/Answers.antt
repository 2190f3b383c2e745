-- A depth is eight and more.
use Rattle.std.proofs.Common.{refl, arith}
use Rattle.spl_procedures.proofs.laws.routines_are_procedures.Goals as goal

pub returns : goal.returns
returns c globals own own_arrays r few = record { setting = refl; few = few; deep = omega arith }
