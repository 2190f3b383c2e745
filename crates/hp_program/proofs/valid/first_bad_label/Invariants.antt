use Rattle.std.proofs.Common.{◌≡◌, map, ◌+◌, ◌-◌}
use Rattle.hp_program.specs.Valid.{bad_label, entries_of}
use Rattle.hp_program.proofs.valid.first_bad_label.Given as goal

-- the first bad label from here on is the first of the segment
abbrev pub invariant-loop-k : goal.invariant-loop-k
invariant-loop-k l = bad_label (map (λ s. s.items) l.segments) l.s l.words (l.k + 1) (l.entries - l.k) ≡ bad_label (map (λ s. s.items) l.segments) l.s l.words 1 (entries_of l.words)
