use Rattle.std.proofs.Common.{◌≡◌, drop}
use Rattle.spl_tokens.specs.Cursor.{symbol_in}
use Rattle.spl_tokens.proofs.symbols.symbol_among.Given as goal

-- the words so far are others
abbrev pub invariant-loop-word : goal.invariant-loop-word
invariant-loop-word l = symbol_in (drop l.word-index l.words) l.letters ≡ symbol_in l.words l.letters
