-- An intrinsic is done within bounds and where there is room, and else traps. Each is proved under its name.
use Rattle.hp_call_yields.proofs.GateYields as gateyields
use Rattle.hp_call_yields.proofs.laws.intrinsics_yield.Goals as goal

pub returns : goal.returns
returns c = record {
  intrinsic_done = gateyields.intrinsic_done;
  intrinsic_out = gateyields.intrinsic_out;
  intrinsic_full = gateyields.intrinsic_full;
}
