use Rattle.spl_found.proofs.FoundUnits.{first_walked}
use Rattle.spl_found.proofs.laws.first_rules_are_walked.Goals as goal

-- what waits, and bodies that are wanted, in another order
pub returns : goal.returns
returns c = first_walked
