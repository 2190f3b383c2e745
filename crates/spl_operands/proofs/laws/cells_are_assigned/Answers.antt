-- By the value, and the store behind it.
use Rattle.spl_operands.proofs.AssignLemmas.{cells_assigned}
use Rattle.spl_operands.proofs.laws.cells_are_assigned.Goals as goal

pub returns : goal.returns
returns c = cells_assigned
