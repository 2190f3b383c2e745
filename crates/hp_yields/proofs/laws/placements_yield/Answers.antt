-- Words are pushed, copied, deleted and exchanged, and no flag and no code changes. Each is proved under its name.
use Rattle.hp_yields.proofs.StackYields as stackyields
use Rattle.hp_yields.proofs.laws.placements_yield.Goals as goal

pub returns : goal.returns
returns c = record {
  zero_pushed = stackyields.zero_pushed;
  zeros_pushed = stackyields.zeros_pushed;
  top_deleted = stackyields.top_deleted;
  double_deleted = stackyields.double_deleted;
  lower_deleted = stackyields.lower_deleted;
  top_copied = stackyields.top_copied;
  two_exchanged = stackyields.two_exchanged;
  three_rotated = stackyields.three_rotated;
  top_to_x = stackyields.top_to_x;
}
