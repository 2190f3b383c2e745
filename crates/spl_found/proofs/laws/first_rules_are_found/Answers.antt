use Rattle.spl_found.proofs.FoundDeclarations.{first_found}
use Rattle.spl_found.proofs.laws.first_rules_are_found.Goals as goal

-- part by part, with what is known before each
pub returns : goal.returns
returns c = first_found
