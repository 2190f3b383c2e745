-- A shape is a variable, an array, a view or a pointer.
use Rattle.spl_place_laws.proofs.NamedLaws.{all_data}
use Rattle.spl_place_laws.proofs.laws.items_are_data.Goals as goal

pub returns : goal.returns
returns c = all_data
