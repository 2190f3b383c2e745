use Rattle.std.proofs.Common.{◌≡◌, take, map}
use Rattle.hp_program.proofs.program.copy_segments.Given as goal

-- the segments copied so far are equal
abbrev pub invariant-loop-words : goal.invariant-loop-words
invariant-loop-words l = map (λ s. s.items) l.copies.items ≡ map (λ s. s.items) (take l.words-index l.segments)
