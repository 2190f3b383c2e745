use Rattle.spl_meaning.proofs.RuleKinds.{same_kind}
use Rattle.spl_meaning.proofs.laws.rule_kinds_are_kinds.Goals as goal

-- what breaks no rule is no misused name, nor are its operands
pub returns : goal.returns
returns c = same_kind
