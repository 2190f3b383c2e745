-- By the value, and what deposits it.
use Rattle.spl_field_stores.proofs.FieldLemmas.{cells_assigned}
use Rattle.spl_field_stores.proofs.laws.fields_of_cells_are_assigned.Goals as goal

pub returns : goal.returns
returns c = cells_assigned
