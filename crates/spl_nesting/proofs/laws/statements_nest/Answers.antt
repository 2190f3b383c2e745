use Rattle.spl_nesting.proofs.NestingLaws.{nest}
use Rattle.spl_nesting.proofs.laws.statements_nest.Goals as goal

-- along a chain of open productions
pub returns : goal.returns
returns c = nest
