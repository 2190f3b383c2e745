-- By the place.
use Rattle.spl_top_fields.proofs.VariableLemmas.{variables_put}
use Rattle.spl_top_fields.proofs.CellLemmas.{cells_put}
use Rattle.spl_top_fields.proofs.ElementLemmas.{elements_put}
use Rattle.spl_top_fields.proofs.laws.fields_are_put.Goals as goal

pub returns : goal.returns
returns c = record { variables = variables_put; cells = cells_put; elements = elements_put }
