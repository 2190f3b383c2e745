-- By what stands at the variable's address.
use Rattle.spl_values.proofs.VariableLemmas.{variables_give}
use Rattle.spl_values.proofs.laws.variables_simulate.Goals as goal

pub returns : goal.returns
returns c = variables_give
