-- The place of the field is that of its eight bits.
use Rattle.spl_operators.proofs.SingleLemmas.{fields}
use Rattle.spl_operators.proofs.laws.fields_simulate.Goals as goal

pub returns : goal.returns
returns c = fields
