use Rattle.spl_meaning.proofs.RunLaws.{ended_stays}
use Rattle.spl_meaning.proofs.laws.ended_runs_stay.Goals as goal

-- one step more at a time
pub returns : goal.returns
returns c = ended_stays
