-- By the row of STD.
use Rattle.spl_doubles.proofs.StoreLemmas.{variables_assigned}
use Rattle.spl_doubles.proofs.laws.variables_are_assigned.Goals as goal

pub returns : goal.returns
returns c = variables_assigned
