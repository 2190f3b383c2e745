use Rattle.std.proofs.Common.{◌≡◌, ◌++◌, ◌+◌, map, length}
use Rattle.std.specs.Prelude.{vec_capacity}
use Rattle.hp_word.specs.Intrinsics.{addresses}
use Rattle.hp_call_rows.specs.GateRows.{stack_byte}
use Rattle.hp_tos.specs.StackView.{seen}
use Rattle.mpe_gate.proofs.bytes.append_bytes.Given as goal

-- the bytes so far are printed, in room that was there
abbrev pub invariant-loop-k : goal.invariant-loop-k
invariant-loop-k l = record {
  value : l.printed.items ≡ l.fn.printed.items ++ map (stack_byte (seen l.stack).words) (addresses l.first l.k);
  counted : length l.printed.items ≡ length l.fn.printed.items + l.k;
  same : vec_capacity l.printed ≡ vec_capacity l.fn.printed;
}
