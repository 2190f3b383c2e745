-- The index, and then the cell.
use Rattle.spl_safe_values.proofs.ValueLemmas.{references_safe}
use Rattle.spl_safe_values.proofs.laws.references_are_safe.Goals as goal

pub returns : goal.returns
returns c = references_safe
