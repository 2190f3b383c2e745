-- A step of a scan passes a byte, ends, or traps. Each is proved under its name.
use Rattle.hp_call_yields.proofs.MoveYields as moveyields
use Rattle.hp_call_yields.proofs.laws.scans_yield.Goals as goal

pub returns : goal.returns
returns c = record {
  scan_while_goes = moveyields.scan_while_goes;
  scan_while_ends = moveyields.scan_while_ends;
  scan_while_reads_none = moveyields.scan_while_reads_none;
  scan_until_goes = moveyields.scan_until_goes;
  scan_until_ends = moveyields.scan_until_ends;
  scan_until_reads_none = moveyields.scan_until_reads_none;
}
