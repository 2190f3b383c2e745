-- By the rows of their instructions.
use Rattle.spl_doubles.proofs.RelationLemmas.{relations_give}
use Rattle.spl_doubles.proofs.laws.relations_simulate.Goals as goal

pub returns : goal.returns
returns c = relations_give
