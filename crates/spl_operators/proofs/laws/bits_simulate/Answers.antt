-- Bit by bit.
use Rattle.spl_operators.proofs.BitLemmas.{bitwise}
use Rattle.spl_operators.proofs.laws.bits_simulate.Goals as goal

pub returns : goal.returns
returns c = bitwise
