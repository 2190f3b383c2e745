-- Step by step.
use Rattle.spl_follow.proofs.WayLemmas.{visits_add, prints_add, bytes_after}
use Rattle.spl_follow.proofs.laws.steps_add_up.Goals as goal

pub returns-clause-visits : goal.returns-clause-visits
returns-clause-visits c = visits_add

pub returns-clause-prints : goal.returns-clause-prints
returns-clause-prints c = prints_add

pub returns-clause-bytes : goal.returns-clause-bytes
returns-clause-bytes c = bytes_after
