use Rattle.std.proofs.Common.{◌≡◌, map, take, length}
use Rattle.std.specs.Prelude.{filter, nat_lt}
use Rattle.job_lines.proofs.lines.words.Given as goal

-- the words so far are the parts so far that are not empty
abbrev pub invariant-loop-part : goal.invariant-loop-part
invariant-loop-part l = map (λ w. w.now) l.words.items ≡ filter (λ w. nat_lt 0 (length w)) (map (λ w. w.now) (take l.part-index l.part-items))
