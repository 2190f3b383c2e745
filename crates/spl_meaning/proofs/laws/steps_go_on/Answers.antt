use Rattle.spl_meaning.proofs.RunLaws.{steps_go_on}
use Rattle.spl_meaning.proofs.laws.steps_go_on.Goals as goal

-- one step more of a tame run
pub returns : goal.returns
returns c = steps_go_on
