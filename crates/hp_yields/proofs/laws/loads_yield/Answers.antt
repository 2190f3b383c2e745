-- Loads push what is at their operand, or trap where it is not there. Each is proved under its name.
use Rattle.hp_yields.proofs.MemoryYields as memoryyields
use Rattle.hp_yields.proofs.laws.loads_yield.Goals as goal

pub returns : goal.returns
returns c = record {
  word_loaded = memoryyields.word_loaded;
  word_not_found = memoryyields.word_not_found;
  word_not_there = memoryyields.word_not_there;
  byte_is_loaded = memoryyields.byte_is_loaded;
  byte_not_found = memoryyields.byte_not_found;
  byte_not_there = memoryyields.byte_not_there;
  double_is_loaded = memoryyields.double_is_loaded;
  double_not_found = memoryyields.double_not_found;
  high_not_there = memoryyields.high_not_there;
  low_not_there = memoryyields.low_not_there;
  x_loaded = memoryyields.x_loaded;
  x_not_found = memoryyields.x_not_found;
  x_not_there = memoryyields.x_not_there;
  address_pushed = memoryyields.address_pushed;
  address_not_found = memoryyields.address_not_found;
  code_pushed = memoryyields.code_pushed;
  before_pushed = memoryyields.before_pushed;
}
