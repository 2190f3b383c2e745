use Rattle.spl_nesting.proofs.HeightLaws.{few_parts}
use Rattle.spl_nesting.proofs.laws.few_parts_wait.Goals as goal

-- along a chain of open productions
pub returns : goal.returns
returns c = few_parts
