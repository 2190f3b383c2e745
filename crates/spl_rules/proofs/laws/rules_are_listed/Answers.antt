use Rattle.spl_rules.proofs.Listed.{listed}
use Rattle.spl_rules.proofs.laws.rules_are_listed.Goals as goal

-- part by part
pub returns : goal.returns
returns c = listed
