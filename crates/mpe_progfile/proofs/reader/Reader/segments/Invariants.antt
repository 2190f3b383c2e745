use Rattle.std.proofs.Common.{◌≡◌, ◌≤◌, ◌+◌, ◌*◌, ◌-◌, ◌++◌, map, length}
use Rattle.mpe_progfile.specs.Files.{segments_bytes}
use Rattle.mpe_progfile.specs.Reading.{segment, times}
use Rattle.mpe_progfile.specs.Views.{cursor_of}
use Rattle.mpe_progfile.proofs.ReadLemmas.{behind}
use Rattle.mpe_progfile.proofs.reader.Reader.segments.Given as goal

-- what was read, with what the rest is read as, is what all is read as
abbrev pub invariant-loop : goal.invariant-loop
invariant-loop l =
    (behind (map (λ s. s.items) l.segments.items) (times segment (l.count - l.counter) (cursor_of l.self)) ≡ times segment l.count (cursor_of l.initial.self))
    × (l.self.at ≤ l.initial.self.at + 32768 * l.counter)
    × (l.initial.self.left.now ≡ segments_bytes (map (λ s. s.items) l.segments.items) ++ l.self.left.now) × (length l.segments.items ≡ l.counter)
