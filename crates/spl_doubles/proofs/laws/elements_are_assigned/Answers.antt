-- By the row of STD.
use Rattle.spl_doubles.proofs.CellLemmas.{elements_assigned}
use Rattle.spl_doubles.proofs.laws.elements_are_assigned.Goals as goal

pub returns : goal.returns
returns c = elements_assigned
