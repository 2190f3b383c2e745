-- By the names that modules define, and by the main bodies that they have.
use Rattle.spl_linked_names.proofs.Apart.{names_unique}
use Rattle.spl_linked_names.proofs.laws.linked_names_are_unique.Goals as goal

pub returns : goal.returns
returns c = names_unique
