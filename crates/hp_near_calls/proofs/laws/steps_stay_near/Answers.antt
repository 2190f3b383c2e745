-- By the rows of all instructions.
use Rattle.hp_near_calls.proofs.NearLemmas.{steps_near}
use Rattle.hp_near_calls.proofs.laws.steps_stay_near.Goals as goal

pub returns : goal.returns
returns c = λ segments m. steps_near segments m
