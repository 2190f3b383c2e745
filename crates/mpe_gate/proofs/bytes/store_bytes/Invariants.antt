use Rattle.std.proofs.Common.{◌≡◌, ◌+◌, drop, length}
use Rattle.hp_word.specs.Intrinsics.{stored_from}
use Rattle.hp_call_rows.specs.GateRows.{with_bytes}
use Rattle.hp_tos.specs.StackView.{seen}
use Rattle.mpe_gate.specs.Words.{with_words}
use Rattle.mpe_gate.proofs.bytes.store_bytes.Given as goal

-- the bytes left lead from here to where all lead, and the words alone change
abbrev pub invariant-loop-byte : goal.invariant-loop-byte
invariant-loop-byte l = record {
  place : l.b ≡ l.first + l.byte-index;
  kept : seen l.stack ≡ with_words (seen l.stack).words (seen l.fn.stack);
  many : length (seen l.stack).words ≡ length (seen l.fn.stack).words;
  value : with_bytes (seen l.stack).words (stored_from l.b (drop l.byte-index l.bytes))
      ≡ with_bytes (seen l.fn.stack).words (stored_from l.first l.bytes);
}
