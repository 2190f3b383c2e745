-- All faults but the last are told by outlines.
use Rattle.spl_module_names.proofs.FaultLaws.{faults_agree}
use Rattle.spl_module_names.proofs.laws.first_faults_agree.Goals as goal

pub returns : goal.returns
returns c = faults_agree
