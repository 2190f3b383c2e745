use Rattle.spl_cuts.proofs.Fixed.{faults_end}
use Rattle.spl_cuts.proofs.laws.faults_end.Goals as goal

-- by the cases of a fault
pub returns : goal.returns
returns c = faults_end
