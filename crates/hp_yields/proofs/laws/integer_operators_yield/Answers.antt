-- Operators on INTEGERs leave their result, or trap where it is out of range. Each is proved under its name.
use Rattle.hp_yields.proofs.StackYields as stackyields
use Rattle.hp_yields.proofs.laws.integer_operators_yield.Goals as goal

pub returns : goal.returns
returns c = record {
  add = stackyields.add;
  subtract = stackyields.subtract;
  multiply = stackyields.multiply;
  divide = stackyields.divide;
  negate = stackyields.negate;
}
