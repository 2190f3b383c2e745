-- Operators on DOUBLEs leave their result, or trap where it is out of range. Each is proved under its name.
use Rattle.hp_yields.proofs.StackYields as stackyields
use Rattle.hp_yields.proofs.laws.double_operators_yield.Goals as goal

pub returns : goal.returns
returns c = record {
  double_add = stackyields.double_add;
  double_subtract = stackyields.double_subtract;
  double_negate = stackyields.double_negate;
}
