-- Intrinsic by intrinsic; a store leaves the code.
use Rattle.spl_safe_effects.proofs.CodeLemmas.{calls_coded, assignments_coded}
use Rattle.spl_safe_effects.proofs.laws.intrinsics_set_codes.Goals as goal

pub returns-clause-calls : goal.returns-clause-calls
returns-clause-calls c = calls_coded

pub returns-clause-assignments : goal.returns-clause-assignments
returns-clause-assignments c = assignments_coded
