-- Both count the same.
use Rattle.spl_few_loops.proofs.LoopLaws.{same_among}
use Rattle.spl_few_loops.proofs.laws.loops_are_fors.Goals as goal

pub returns : goal.returns
returns c = same_among
