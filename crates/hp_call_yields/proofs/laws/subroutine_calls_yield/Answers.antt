-- SCAL pushes the offset behind it, where there is room. Each is proved under its name.
use Rattle.hp_call_yields.proofs.BranchYields as branchyields
use Rattle.hp_call_yields.proofs.laws.subroutine_calls_yield.Goals as goal

pub returns : goal.returns
returns c = record {
  subroutine_entered = branchyields.subroutine_entered;
  subroutine_not_entered = branchyields.subroutine_not_entered;
}
