use Rattle.spl_nesting.proofs.NestingLaws.{few_fors}
use Rattle.spl_nesting.proofs.laws.few_fors_nest.Goals as goal

-- since a FOR is a construct
pub returns : goal.returns
returns c = few_fors
