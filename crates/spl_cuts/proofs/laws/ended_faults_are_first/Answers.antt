use Rattle.spl_cuts.proofs.Fixed.{ends_first}
use Rattle.spl_cuts.proofs.laws.ended_faults_are_first.Goals as goal

-- by the cases of where a piece ends
pub returns : goal.returns
returns c = ends_first
