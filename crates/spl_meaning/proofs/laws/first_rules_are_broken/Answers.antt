use Rattle.spl_meaning.proofs.FirstFaults.{first_rule_is}
use Rattle.spl_meaning.proofs.laws.first_rules_are_broken.Goals as goal

-- the first of a list
pub returns : goal.returns
returns c = first_rule_is
