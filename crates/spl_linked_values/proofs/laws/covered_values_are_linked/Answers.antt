-- Along the tree.
use Rattle.spl_linked_values.proofs.Expressions.{all_linked}
use Rattle.spl_linked_values.proofs.laws.covered_values_are_linked.Goals as goal

pub returns : goal.returns
returns c = all_linked
