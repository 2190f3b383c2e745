-- Step by step.
use Rattle.spl_body_code.proofs.JoinLaws.{procedure_joined, subroutine_joined, main_joined}
use Rattle.spl_body_code.proofs.laws.bodies_are_joined.Goals as goal

pub returns : goal.returns
returns c = record { procedures = procedure_joined; subroutines = subroutine_joined; main_bodies = main_joined }
