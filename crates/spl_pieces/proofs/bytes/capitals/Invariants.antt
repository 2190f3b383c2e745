use Rattle.std.proofs.Common.{◌≡◌, map, take}
use Rattle.spl_cuts.specs.Bytes as ct
use Rattle.spl_pieces.proofs.bytes.capitals.Given as goal

-- the letters so far are capitals
abbrev pub invariant-loop-b : goal.invariant-loop-b
invariant-loop-b l = l.text.items ≡ map ct.capital (take l.b-index l.letters)
