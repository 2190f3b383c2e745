-- By a machine in split mode.
use Rattle.hp_near_calls.proofs.NearLemmas.{calls_near}
use Rattle.hp_near_calls.proofs.laws.subroutine_calls_are_near.Goals as goal

pub returns : goal.returns
returns c = λ g p r to n leads. calls_near g p r to n leads
