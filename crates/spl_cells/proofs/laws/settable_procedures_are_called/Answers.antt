-- Their entries set them.
use Rattle.spl_cells.proofs.SetLemmas.{settable_called}
use Rattle.spl_cells.proofs.laws.settable_procedures_are_called.Goals as goal

pub returns : goal.returns
returns c = settable_called c.procedures_are_called.ensures c.settable_are_set.ensures
