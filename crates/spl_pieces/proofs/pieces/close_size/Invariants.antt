use Rattle.std.proofs.Common.{◌≡◌, drop}
use Rattle.spl_cuts.specs.Reading.{close_size}
use Rattle.spl_pieces.proofs.SizeLemmas.{ahead}
use Rattle.spl_pieces.proofs.pieces.close_size.Given as goal

-- the bytes so far, and those up to the end of the next >> behind them
abbrev pub invariant-loop-i : goal.invariant-loop-i
invariant-loop-i l = ahead l.i (close_size (drop l.i l.bytes)) ≡ close_size l.bytes
