use Rattle.std.proofs.Common.{◌≡◌, ◌≤◌, ◌++◌, drop, length, replicate}
use Rattle.spl_branch.specs.Stands.{at_left}
use Rattle.spl_branch.specs.Rounds.{short_end, turns_of, stands_from, nowhere}
use Rattle.spl_branch.proofs.survey.survey.Given as goal

-- what is found so far and what stands in the pieces left is all
abbrev pub invariant-loop-i : goal.invariant-loop-i
invariant-loop-i l = record {
  low : l.spot.offset ≤ 16383;
  ends : short_end l.spot (drop l.i l.pieces) ≡ short_end (at_left 0) l.pieces;
  turns : l.turns.items ++ turns_of l.spot (drop l.i l.pieces) ≡ turns_of (at_left 0) l.pieces;
  stands : stands_from l.stands.items l.spot (length l.turns.items) (drop l.i l.pieces) ≡ stands_from (replicate l.marks nowhere) (at_left 0) 0 l.pieces;
}
