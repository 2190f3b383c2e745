use Rattle.std.proofs.Common.{◌≡◌, ◌++◌, map, drop}
use Rattle.job_report.specs.Lines.{line}
use Rattle.job_report.proofs.lines.push_line.Given as goal

-- what is told, with the pieces that are left, is all
abbrev pub invariant-loop-piece : goal.invariant-loop-piece
invariant-loop-piece l =
    l.text.items ++ line (map (λ p. p.now) (drop l.piece-index l.pieces)) ≡ l.initial.text.items ++ line (map (λ p. p.now) l.pieces)
