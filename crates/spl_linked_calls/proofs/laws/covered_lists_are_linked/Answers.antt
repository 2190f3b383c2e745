-- Along the tree.
use Rattle.spl_linked_calls.proofs.Statements.{tell_lists}
use Rattle.spl_linked_calls.proofs.laws.covered_lists_are_linked.Goals as goal

pub returns : goal.returns
returns c = tell_lists
