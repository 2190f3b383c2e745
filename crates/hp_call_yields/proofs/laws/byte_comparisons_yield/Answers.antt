-- A step of CMPB goes on at equal bytes, ends, or traps. Each is proved under its name.
use Rattle.hp_call_yields.proofs.MoveYields as moveyields
use Rattle.hp_call_yields.proofs.laws.byte_comparisons_yield.Goals as goal

pub returns : goal.returns
returns c = record {
  compare_ends = moveyields.compare_ends;
  compare_goes = moveyields.compare_goes;
  compare_differs = moveyields.compare_differs;
  compare_reads_no_first = moveyields.compare_reads_no_first;
  compare_reads_no_second = moveyields.compare_reads_no_second;
}
