-- By what a call of one procedure does, and of one subroutine.
use Rattle.spl_callees.proofs.CalleeLemmas.{callees_follow, callees_within}
use Rattle.spl_callees.proofs.laws.callees_follow.Goals as goal

pub returns-clause-within : goal.returns-clause-within
returns-clause-within c = callees_within c.settable_procedures_are_called.ensures c.subroutines_are_called.ensures

pub returns-clause-alone : goal.returns-clause-alone
returns-clause-alone c = callees_follow c.settable_procedures_are_called.ensures c.subroutines_are_called.ensures
