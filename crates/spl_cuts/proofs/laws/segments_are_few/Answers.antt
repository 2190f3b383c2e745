use Rattle.spl_cuts.proofs.FewSegments.{few_segments}
use Rattle.spl_cuts.proofs.laws.segments_are_few.Goals as goal

-- along the pieces
pub returns : goal.returns
returns c = few_segments
