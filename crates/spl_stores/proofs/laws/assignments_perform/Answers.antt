-- By what stands at the variable's address.
use Rattle.spl_stores.proofs.StoreLemmas.{assignments}
use Rattle.spl_stores.proofs.laws.assignments_perform.Goals as goal

pub returns : goal.returns
returns c = assignments
