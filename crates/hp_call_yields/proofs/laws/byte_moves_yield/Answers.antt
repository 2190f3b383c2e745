-- A step of MVB moves a byte, ends, or traps. Each is proved under its name.
use Rattle.hp_call_yields.proofs.MoveYields as moveyields
use Rattle.hp_call_yields.proofs.laws.byte_moves_yield.Goals as goal

pub returns : goal.returns
returns c = record {
  bytes_end = moveyields.bytes_end;
  bytes_go = moveyields.bytes_go;
  bytes_read_none = moveyields.bytes_read_none;
  bytes_store_none = moveyields.bytes_store_none;
}
