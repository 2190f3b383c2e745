-- Branches go on by what they test. Each is proved under its name.
use Rattle.hp_call_yields.proofs.BranchYields as branchyields
use Rattle.hp_call_yields.proofs.laws.branches_yield.Goals as goal

pub returns : goal.returns
returns c = record {
  always_turns = branchyields.always_turns;
  code_turns = branchyields.code_turns;
  even_turns = branchyields.even_turns;
  no_carry_turns = branchyields.no_carry_turns;
  no_overflow_turns = branchyields.no_overflow_turns;
}
