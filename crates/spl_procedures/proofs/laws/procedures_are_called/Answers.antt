-- From PCAL to EXIT.
use Rattle.spl_procedures.proofs.CallLemmas.{procedures_follow}
use Rattle.spl_procedures.proofs.laws.procedures_are_called.Goals as goal

pub returns : goal.returns
returns c = procedures_follow
