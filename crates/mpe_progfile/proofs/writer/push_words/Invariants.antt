use Rattle.std.proofs.Common.{◌≡◌, ◌++◌}
use Rattle.std.specs.Prelude.{drop}
use Rattle.mpe_progfile.specs.Files.{words_bytes}
use Rattle.mpe_progfile.proofs.writer.push_words.Given as goal

-- what is written, with the words that are left, is all
abbrev pub invariant-loop-word : goal.invariant-loop-word
invariant-loop-word l = l.bytes.items ++ words_bytes (drop l.word-index l.words) ≡ l.initial.bytes.items ++ words_bytes l.words
