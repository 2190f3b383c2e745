use Rattle.spl_known.proofs.KnownFaults.{all_fault}
use Rattle.spl_known.proofs.known_rules.faults_are_found.Goals as goal

-- each is computed
pub returns : goal.returns
returns c = all_fault
