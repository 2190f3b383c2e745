-- Segments in their order, and the words of each.
use Rattle.spl_bounds.proofs.Words.{keep_bounds}
use Rattle.spl_bounds.proofs.Programs.{programs_bounded}
use Rattle.spl_bounds.proofs.laws.programs_keep_bounds.Goals as goal

pub returns : goal.returns
returns c = programs_bounded keep_bounds
