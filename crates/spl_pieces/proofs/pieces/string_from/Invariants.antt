use Rattle.std.proofs.Common.{◌≡◌, drop, false}
use Rattle.spl_cuts.specs.Reading.{string_from}
use Rattle.spl_pieces.proofs.SizeLemmas.{with_front}
use Rattle.spl_pieces.proofs.pieces.string_from.Given as goal

-- the characters and bytes so far, and those of the rest
abbrev pub invariant-loop-i : goal.invariant-loop-i
invariant-loop-i l = with_front l.chars.items l.i (string_from l.quoted (drop l.i l.bytes)) ≡ string_from false l.bytes
