-- By the value, and what deposits it.
use Rattle.spl_field_stores.proofs.FieldLemmas.{variables_assigned}
use Rattle.spl_field_stores.proofs.laws.fields_of_variables_are_assigned.Goals as goal

pub returns : goal.returns
returns c = variables_assigned
