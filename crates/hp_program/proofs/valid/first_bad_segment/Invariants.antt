use Rattle.std.proofs.Common.{◌≡◌, map, drop}
use Rattle.hp_program.specs.Valid.{bad_segment}
use Rattle.hp_program.proofs.valid.first_bad_segment.Given as goal

-- the first bad segment from here on is the first of all
abbrev pub invariant-loop-s : goal.invariant-loop-s
invariant-loop-s l = bad_segment l.s (map (λ s. s.items) (drop l.s l.segments)) ≡ bad_segment 0 (map (λ s. s.items) l.segments)
