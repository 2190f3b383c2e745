-- TBA and MTBA go on by the variable at the address in C, or delete the three words. Each is proved under its name.
use Rattle.hp_call_yields.proofs.LoopYields as loopyields
use Rattle.hp_call_yields.proofs.laws.loops_yield.Goals as goal

pub returns : goal.returns
returns c = record {
  loop_tested = loopyields.loop_tested;
  loop_test_reads_none = loopyields.loop_test_reads_none;
  loop_stepped = loopyields.loop_stepped;
  loop_step_overflows = loopyields.loop_step_overflows;
  loop_step_reads_none = loopyields.loop_step_reads_none;
}
