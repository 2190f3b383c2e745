use Rattle.spl_rules.proofs.Misused.{misused_break}
use Rattle.spl_rules.proofs.laws.misused_names_break.Goals as goal

-- by what the name stands for
pub returns : goal.returns
returns c = misused_break
