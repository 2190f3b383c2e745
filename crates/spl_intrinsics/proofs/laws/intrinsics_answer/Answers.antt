-- By what the gate does, and what the run does there.
use Rattle.spl_intrinsics.proofs.CallLemmas.{answers}
use Rattle.spl_intrinsics.proofs.laws.intrinsics_answer.Goals as goal

pub returns : goal.returns
returns c = answers
