-- From SCAL to SXIT.
use Rattle.spl_subroutines.proofs.CallLemmas.{subroutines_follow}
use Rattle.spl_subroutines.proofs.laws.subroutines_are_called.Goals as goal

pub returns : goal.returns
returns c = subroutines_follow
