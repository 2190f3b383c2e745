use Rattle.std.proofs.Common.{◌≡◌, map, drop, nat_eq}
use lib.Pointwise.{pointwise}
use Rattle.spl_cuts.specs.Bytes as ct
use Rattle.spl_pieces.proofs.bytes.is_word.Given as goal

-- the letters left tell what all tell
abbrev pub invariant-loop-i : goal.invariant-loop-i
invariant-loop-i l = pointwise nat_eq (map ct.capital (drop l.i l.letters)) (drop l.i l.word) ≡ pointwise nat_eq (map ct.capital l.letters) l.word
