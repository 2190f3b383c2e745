use Rattle.spl_rules.proofs.Listed.{first_are_first}
use Rattle.spl_rules.proofs.laws.first_rules_are_first.Goals as goal

-- by the law of the list
pub returns : goal.returns
returns c = first_are_first c.first_rules_are_broken.ensures
