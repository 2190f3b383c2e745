use Rattle.spl_cuts.proofs.TextCuts.{faults_first}
use Rattle.spl_cuts.proofs.laws.faults_are_first.Goals as goal

-- by induction on the text
pub returns : goal.returns
returns c = faults_first
