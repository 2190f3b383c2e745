-- Operators on LOGICALs leave their result. Each is proved under its name.
use Rattle.hp_yields.proofs.StackYields as stackyields
use Rattle.hp_yields.proofs.laws.logical_operators_yield.Goals as goal

pub returns : goal.returns
returns c = record {
  logical_add = stackyields.logical_add;
  logical_subtract = stackyields.logical_subtract;
  logical_multiply = stackyields.logical_multiply;
  logical_divide = stackyields.logical_divide;
}
