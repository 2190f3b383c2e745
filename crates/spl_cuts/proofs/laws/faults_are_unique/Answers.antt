use Rattle.spl_cuts.proofs.TextCuts.{faults_unique}
use Rattle.spl_cuts.proofs.laws.faults_are_unique.Goals as goal

-- both are what is read
pub returns : goal.returns
returns c = faults_unique
