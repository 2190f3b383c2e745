use Rattle.std.proofs.Common.{◌≡◌, ◌≤◌, ◌+◌, drop}
use Rattle.spl_cuts.specs.Bytes as ct
use Rattle.spl_pieces.proofs.bytes.past_all.Given as goal

-- the bytes left lead to the place to which all lead, and no byte passes more than one line or column
abbrev pub invariant-loop-b : goal.invariant-loop-b
invariant-loop-b l = record {
  place : ct.past_all l.at (drop l.b-index l.bytes) ≡ ct.past_all l.fn.at l.bytes;
  line : l.at.line ≤ l.fn.at.line + l.b-index;
  column : l.at.column ≤ l.fn.at.column + l.b-index;
}
