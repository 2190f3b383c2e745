-- Comparisons delete their operands and leave their code. Each is proved under its name.
use Rattle.hp_yields.proofs.StackYields as stackyields
use Rattle.hp_yields.proofs.laws.comparisons_yield.Goals as goal

pub returns : goal.returns
returns c = record {
  compare = stackyields.compare;
  logical_compare = stackyields.logical_compare;
  double_compare = stackyields.double_compare;
  top_tested = stackyields.top_tested;
}
