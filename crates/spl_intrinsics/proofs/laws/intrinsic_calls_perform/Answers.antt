-- By the code of a call, and what is done with its answer.
use Rattle.spl_intrinsics.proofs.PerformLemmas.{calls_perform, answers_assigned}
use Rattle.spl_intrinsics.proofs.laws.intrinsic_calls_perform.Goals as goal

pub returns-clause-calls : goal.returns-clause-calls
returns-clause-calls c = calls_perform

pub returns-clause-assigned : goal.returns-clause-assigned
returns-clause-assigned c = answers_assigned
