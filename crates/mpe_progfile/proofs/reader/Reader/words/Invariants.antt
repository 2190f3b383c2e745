use Rattle.std.proofs.Common.{◌≡◌, ◌+◌, ◌*◌, ◌-◌, ◌++◌, length}
use Rattle.mpe_progfile.specs.Files.{words_bytes}
use Rattle.mpe_progfile.specs.Reading.{word, times}
use Rattle.mpe_progfile.specs.Views.{cursor_of}
use Rattle.mpe_progfile.proofs.ReadLemmas.{behind}
use Rattle.mpe_progfile.proofs.reader.Reader.words.Given as goal

-- what was read, with what the rest is read as, is what all is read as
abbrev pub invariant-loop : goal.invariant-loop
invariant-loop l =
    (behind l.words.items (times word (l.count - l.counter) (cursor_of l.self)) ≡ times word l.count (cursor_of l.initial.self))
    × (l.self.at ≡ l.initial.self.at + 2 * l.counter) × (length l.words.items ≡ l.counter)
    × (l.initial.self.left.now ≡ words_bytes l.words.items ++ l.self.left.now)
