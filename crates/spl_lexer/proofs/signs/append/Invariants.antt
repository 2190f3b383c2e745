use Rattle.std.proofs.Common.{◌≡◌, ◌++◌, map, take}
use Rattle.spl_pieces.specs.SignViews.{sign_of}
use Rattle.spl_lexer.proofs.signs.append.Given as goal

-- the tokens so far are put behind
abbrev pub invariant-loop-sign : goal.invariant-loop-sign
invariant-loop-sign l = map sign_of l.kept.items ≡ map sign_of l.initial.kept.items ++ map sign_of (take l.sign-index l.signs)
