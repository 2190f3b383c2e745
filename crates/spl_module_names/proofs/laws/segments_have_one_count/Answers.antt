-- What a segment has by name is told by outlines.
use Rattle.spl_module_names.proofs.Through.{one_count}
use Rattle.spl_module_names.proofs.laws.segments_have_one_count.Goals as goal

pub returns : goal.returns
returns c = one_count
