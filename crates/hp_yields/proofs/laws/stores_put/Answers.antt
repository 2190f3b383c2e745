-- Stores change one word of the stack or of the extra segment, those of doubles two. Each is proved under its name.
use Rattle.hp_yields.proofs.MemoryYields as memoryyields
use Rattle.hp_yields.proofs.laws.stores_put.Goals as goal

pub returns : goal.returns
returns c = record {
  word_puts = memoryyields.word_puts;
  word_puts_far = memoryyields.word_puts_far;
  byte_puts = memoryyields.byte_puts;
  byte_puts_far = memoryyields.byte_puts_far;
  double_puts = memoryyields.double_puts;
}
