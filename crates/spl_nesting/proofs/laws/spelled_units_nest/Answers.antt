use Rattle.spl_nesting.proofs.NestingLaws.{units_nest}
use Rattle.spl_nesting.proofs.laws.spelled_units_nest.Goals as goal

-- unit by unit
pub returns : goal.returns
returns c = units_nest
