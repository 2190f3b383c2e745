-- A step of MVBW moves a byte of its class, ends, or traps. Each is proved under its name.
use Rattle.hp_call_yields.proofs.MoveYields as moveyields
use Rattle.hp_call_yields.proofs.laws.class_moves_yield.Goals as goal

pub returns : goal.returns
returns c = record {
  while_ends = moveyields.while_ends;
  while_goes = moveyields.while_goes;
  while_reads_none = moveyields.while_reads_none;
  while_stores_none = moveyields.while_stores_none;
}
