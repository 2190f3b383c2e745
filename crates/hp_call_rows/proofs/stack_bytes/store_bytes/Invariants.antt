use Rattle.std.proofs.Common.{◌≡◌, ◌+◌, drop, length}
use Rattle.hp_word.specs.Intrinsics.{stored_from}
use Rattle.hp_call_rows.specs.GateRows.{with_bytes}
use Rattle.hp_call_rows.proofs.stack_bytes.store_bytes.Given as goal

-- the bytes left lead from here to where all lead
abbrev pub invariant-loop-byte : goal.invariant-loop-byte
invariant-loop-byte l = record {
  place : l.b ≡ l.first + l.byte-index;
  same : length l.words ≡ length l.fn.words;
  value : with_bytes l.words (stored_from l.b (drop l.byte-index l.bytes)) ≡ with_bytes l.fn.words (stored_from l.first l.bytes);
}
