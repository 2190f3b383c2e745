-- A segment has the words of its modules and its table.
use Rattle.spl_linkable.proofs.LinkLaws.{keep_bounds}
use Rattle.spl_linkable.proofs.laws.segments_keep_bounds.Goals as goal

pub returns : goal.returns
returns c = keep_bounds
