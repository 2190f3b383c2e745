use Rattle.std.proofs.Common.{◌≡◌, drop}
use Rattle.spl_cuts.specs.Reading.{semicolon_size}
use Rattle.spl_pieces.proofs.SizeLemmas.{ahead}
use Rattle.spl_pieces.proofs.pieces.semicolon_size.Given as goal

-- the bytes so far, and those up to the next ; behind them
abbrev pub invariant-loop-i : goal.invariant-loop-i
invariant-loop-i l = ahead l.i (semicolon_size (drop l.i l.bytes)) ≡ semicolon_size l.bytes
