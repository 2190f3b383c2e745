use Rattle.std.proofs.Common.{◌≡◌, map}
use Rattle.arrayvec.specs.ArrayVec.{array_vec_len}
use Rattle.hp_word.specs.Intrinsics.{addresses}
use Rattle.hp_call_rows.specs.GateRows.{stack_byte}
use Rattle.hp_tos.specs.StackView.{seen}
use Rattle.mpe_gate.proofs.bytes.number_at.Given as goal

-- the text so far is that of the bytes so far
abbrev pub invariant-loop-k : goal.invariant-loop-k
invariant-loop-k l = record {
  value : l.text.items ≡ map (stack_byte (seen l.stack).words) (addresses l.first l.k);
  counted : array_vec_len l.text ≡ l.k;
}
