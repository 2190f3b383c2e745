use Rattle.std.proofs.Common.{◌≡◌, ◌≤◌, drop}
use Rattle.spl_cuts.specs.Bytes.{value, value_on}
use Rattle.spl_pieces.specs.PieceViews.{base_of}
use Rattle.spl_pieces.proofs.numbers.value_of.Given as goal

-- the digits left make of the value so far what all make
abbrev pub invariant-loop-d : goal.invariant-loop-d
invariant-loop-d l = record {
  small : l.value ≤ 4294967295;
  same : value_on (base_of l.base) l.value (drop l.d-index l.digits) ≡ value (base_of l.base) l.digits;
}
