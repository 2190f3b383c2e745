-- At most 64 FORs stand around a statement.
use Rattle.spl_few_loops.proofs.LoopLaws.{few_in_all}
use Rattle.spl_few_loops.proofs.laws.few_loops_nest.Goals as goal

pub returns : goal.returns
returns c = few_in_all
