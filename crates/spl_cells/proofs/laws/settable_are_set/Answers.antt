-- One after another.
use Rattle.spl_cells.proofs.SetLemmas.{settable_set}
use Rattle.spl_cells.proofs.laws.settable_are_set.Goals as goal

pub returns : goal.returns
returns c = settable_set
