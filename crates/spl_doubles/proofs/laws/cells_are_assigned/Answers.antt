-- By the row of STD.
use Rattle.spl_doubles.proofs.CellLemmas.{cells_assigned}
use Rattle.spl_doubles.proofs.laws.cells_are_assigned.Goals as goal

pub returns : goal.returns
returns c = cells_assigned
