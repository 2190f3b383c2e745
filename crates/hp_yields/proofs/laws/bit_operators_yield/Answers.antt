-- Operators on bits leave their word and its code. Each is proved under its name.
use Rattle.hp_yields.proofs.StackYields as stackyields
use Rattle.hp_yields.proofs.laws.bit_operators_yield.Goals as goal

pub returns : goal.returns
returns c = record {
  bits_inverted = stackyields.bits_inverted;
  bits_or = stackyields.bits_or;
  bits_xor = stackyields.bits_xor;
  bits_and = stackyields.bits_and;
}
