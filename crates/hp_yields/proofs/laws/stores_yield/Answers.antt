-- Stores put the top words at their operand and delete them, or trap where it is not there. Each is proved under its name.
use Rattle.hp_yields.proofs.MemoryYields as memoryyields
use Rattle.hp_yields.proofs.laws.stores_yield.Goals as goal

pub returns : goal.returns
returns c = record {
  word_stored = memoryyields.word_stored;
  word_not_stored = memoryyields.word_not_stored;
  word_store_not_found = memoryyields.word_store_not_found;
  byte_is_stored = memoryyields.byte_is_stored;
  byte_not_stored = memoryyields.byte_not_stored;
  byte_store_not_found = memoryyields.byte_store_not_found;
  double_is_stored = memoryyields.double_is_stored;
  high_not_stored = memoryyields.high_not_stored;
  low_not_stored = memoryyields.low_not_stored;
  double_store_not_found = memoryyields.double_store_not_found;
}
