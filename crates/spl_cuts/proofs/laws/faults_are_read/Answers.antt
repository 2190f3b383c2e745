use Rattle.spl_cuts.proofs.TextReads.{fault_is_read}
use Rattle.spl_cuts.proofs.laws.faults_are_read.Goals as goal

-- along the pieces before it
pub returns : goal.returns
returns c = fault_is_read
