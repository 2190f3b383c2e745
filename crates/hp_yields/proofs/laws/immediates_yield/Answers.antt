-- Shifts, immediate numbers and fields leave their word. Each is proved under its name.
use Rattle.hp_yields.proofs.WordYields as wordyields
use Rattle.hp_yields.proofs.laws.immediates_yield.Goals as goal

pub returns : goal.returns
returns c = record {
  shift = wordyields.shift;
  number_pushed = wordyields.number_pushed;
  minus_pushed = wordyields.minus_pushed;
  minus_to_x = wordyields.minus_to_x;
  field_extracted = wordyields.field_extracted;
  field_deposited = wordyields.field_deposited;
  number_and = wordyields.number_and;
  number_or = wordyields.number_or;
}
