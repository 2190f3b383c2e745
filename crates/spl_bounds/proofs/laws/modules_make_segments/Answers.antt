-- Unit by unit.
use Rattle.spl_bounds.proofs.Order.{segments_are}
use Rattle.spl_bounds.proofs.laws.modules_make_segments.Goals as goal

pub returns : goal.returns
returns c = segments_are
