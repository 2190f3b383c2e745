-- A step of MOVE moves a word, ends, or traps. Each is proved under its name.
use Rattle.hp_call_yields.proofs.MoveYields as moveyields
use Rattle.hp_call_yields.proofs.laws.word_moves_yield.Goals as goal

pub returns : goal.returns
returns c = record {
  move_ends = moveyields.move_ends;
  move_goes = moveyields.move_goes;
  move_reads_none = moveyields.move_reads_none;
  move_stores_none = moveyields.move_stores_none;
}
