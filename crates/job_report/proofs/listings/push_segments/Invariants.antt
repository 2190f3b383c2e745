use Rattle.std.proofs.Common.{◌≡◌, ◌++◌, map, drop, None}
use Rattle.hp_program.specs.Valid.{bad_segment}
use Rattle.job_report.specs.Listings.{segments_text}
use Rattle.job_report.proofs.listings.push_segments.Given as goal

-- what is told, with the segments that are left, is all; and those are well sized
abbrev pub invariant-loop-s : goal.invariant-loop-s
invariant-loop-s l = record {
  told : l.text.items ++ segments_text l.s (map (λ x. x.items) (drop l.s l.segments)) ≡ l.initial.text.items ++ segments_text 0 (map (λ x. x.items) l.segments);
  sized : bad_segment l.s (map (λ x. x.items) (drop l.s l.segments)) ≡ None;
}
