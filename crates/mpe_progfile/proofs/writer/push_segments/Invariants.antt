use Rattle.std.proofs.Common.{◌≡◌, ◌++◌, map}
use Rattle.std.specs.Prelude.{drop}
use Rattle.mpe_progfile.specs.Files.{segments_bytes}
use Rattle.mpe_progfile.proofs.writer.push_segments.Given as goal

-- what is written, with the segments that are left, is all
abbrev pub invariant-loop-words : goal.invariant-loop-words
invariant-loop-words l =
    l.bytes.items ++ segments_bytes (map (λ s. s.items) (drop l.words-index l.segments)) ≡ l.initial.bytes.items ++ segments_bytes (map (λ s. s.items) l.segments)
