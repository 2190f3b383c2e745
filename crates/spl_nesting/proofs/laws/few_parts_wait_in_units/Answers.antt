use Rattle.spl_nesting.proofs.HeightLaws.{few_parts_in_units}
use Rattle.spl_nesting.proofs.laws.few_parts_wait_in_units.Goals as goal

-- unit by unit
pub returns : goal.returns
returns c = few_parts_in_units
