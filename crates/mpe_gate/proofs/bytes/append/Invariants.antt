use Rattle.std.proofs.Common.{◌≡◌, ◌++◌, take}
use Rattle.std.specs.Prelude.{vec_capacity}
use Rattle.mpe_gate.proofs.bytes.append.Given as goal

-- the bytes so far are printed, in room that was there
abbrev pub invariant-loop-byte : goal.invariant-loop-byte
invariant-loop-byte l = record {
  value : l.printed.items ≡ l.fn.printed.items ++ take l.byte-index l.bytes;
  same : vec_capacity l.printed ≡ vec_capacity l.fn.printed;
}
