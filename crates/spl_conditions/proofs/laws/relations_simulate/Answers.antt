-- By the class of the operands.
use Rattle.spl_conditions.proofs.RelationLemmas.{relations}
use Rattle.spl_conditions.proofs.laws.relations_simulate.Goals as goal

pub returns : goal.returns
returns c = relations
