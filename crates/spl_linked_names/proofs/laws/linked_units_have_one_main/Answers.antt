-- By the names that modules define, and by the main bodies that they have.
use Rattle.spl_linked_names.proofs.Mains.{one_counted}
use Rattle.spl_linked_names.proofs.laws.linked_units_have_one_main.Goals as goal

pub returns : goal.returns
returns c = one_counted
