-- By the value, and the store behind it.
use Rattle.spl_operands.proofs.AssignLemmas.{elements_assigned}
use Rattle.spl_operands.proofs.laws.elements_are_assigned.Goals as goal

pub returns : goal.returns
returns c = elements_assigned
