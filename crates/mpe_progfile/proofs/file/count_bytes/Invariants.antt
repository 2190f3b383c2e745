use Rattle.std.proofs.Common.{◌≡◌, ◌≤◌, ◌+◌, ◌*◌, ◌++◌, map}
use Rattle.std.specs.Prelude.{drop}
use Rattle.mpe_progfile.specs.Reading as read
use Rattle.mpe_progfile.proofs.file.count_bytes.Given as goal

-- the bytes of the segments so far, with those of the rest, are those of all
abbrev pub invariant-loop-words : goal.invariant-loop-words
invariant-loop-words l =
    (l.bytes.items ++ read.count_bytes l.at (map (λ s. s.items) (drop l.words-index l.segments)) ≡ read.count_bytes l.from (map (λ s. s.items) l.segments))
    × (l.at ≤ l.from + 32768 * l.words-index)
