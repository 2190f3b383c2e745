use Rattle.spl_cuts.proofs.Fixed.{faults_stand}
use Rattle.spl_cuts.proofs.laws.faults_stand.Goals as goal

-- what is cut depends on one byte behind it at most
pub returns : goal.returns
returns c = faults_stand
