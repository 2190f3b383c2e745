-- A call pushes its marker, where there is room, and a return goes on where the marker says. Each is proved under its name.
use Rattle.hp_call_yields.proofs.CallYields as callyields
use Rattle.hp_call_yields.proofs.laws.calls_yield.Goals as goal

pub returns : goal.returns
returns c = record {
  procedure_entered = callyields.procedure_entered;
  procedure_not_entered = callyields.procedure_not_entered;
  marker_there = callyields.marker_there;
  status_back = callyields.status_back;
  q_back = callyields.q_back;
  procedure_left = callyields.procedure_left;
  procedure_not_left = callyields.procedure_not_left;
  procedure_returns = callyields.procedure_returns;
  subroutine_returns = callyields.subroutine_returns;
}
