-- Along the tree.
use Rattle.spl_safe_parts.proofs.Parts.{parts_safe}
use Rattle.spl_safe_parts.proofs.laws.covered_parts_are_safe.Goals as goal

pub returns : goal.returns
returns c = parts_safe
