use Rattle.std.proofs.Common.{◌≡◌, map, drop, None}
use Rattle.hp_program.specs.Valid.{bad_segment, bad_table}
use Rattle.hp_program.proofs.valid.first_bad_table.Given as goal

-- the first bad label from here on is the first of all, and the segments from here on are well sized
abbrev pub invariant-loop-s : goal.invariant-loop-s
invariant-loop-s l = record {
  sized : bad_segment l.s (map (λ s. s.items) (drop l.s l.segments)) ≡ None;
  found : bad_table (map (λ s. s.items) l.segments) l.s (map (λ s. s.items) (drop l.s l.segments)) ≡ bad_table (map (λ s. s.items) l.segments) 0 (map (λ s. s.items) l.segments);
}
