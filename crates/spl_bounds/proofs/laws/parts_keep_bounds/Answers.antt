-- Words, and entries.
use Rattle.spl_bounds.proofs.Words.{keep_bounds}
use Rattle.spl_bounds.proofs.laws.parts_keep_bounds.Goals as goal

pub returns : goal.returns
returns c = keep_bounds
