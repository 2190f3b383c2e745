-- One operation of one word.
use Rattle.spl_operators.proofs.SingleLemmas.{shifts}
use Rattle.spl_operators.proofs.laws.shifts_simulate.Goals as goal

pub returns : goal.returns
returns c = shifts
