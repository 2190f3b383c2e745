use Rattle.std.proofs.Common.{◌≡◌, length}
use Rattle.spl_cuts.specs.Reading.{read_text}
use Rattle.spl_lexer.specs.StateViews.{state_of}
use Rattle.spl_lexer.specs.ReaderViews.{here_of, reading, IsLeft}
use Rattle.spl_lexer.proofs.lexer.read_all.Given as goal

-- what is left is read here as the whole text is
abbrev pub invariant-loop-lexer : goal.invariant-loop-lexer
invariant-loop-lexer l = record {
  left : IsLeft (here_of l.lexer.reader.here) (state_of l.lexer.reader.state) l.lexer.text.now l.lexer.blanked.now;
  same : reading (here_of l.lexer.reader.here) (state_of l.lexer.reader.state) l.lexer.text.now ≡ read_text l.fn.unit 262144 l.fn.text;
}

-- each piece has a byte at least
abbrev pub decreases-loop-lexer : goal.decreases-loop-lexer
decreases-loop-lexer l = length l.lexer.text.now
