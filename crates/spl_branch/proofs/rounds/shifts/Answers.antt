-- Each branch adds what its form has beyond one word, which is at most three.
use Rattle.std.proofs.Common.{◌∙◌, arith}
use Rattle.spl_branch.proofs.RoundLemmas.{shifts_more, adds_more, adds_none}
use Rattle.spl_branch.proofs.rounds.shifts.Goals as goal
use Rattle.spl_branch.proofs.rounds.shifts.Goals.{then-is_long, else-is_long}

pub loop-k-preserved : goal.loop-k-preserved
loop-k-preserved c = record {
  made =
      rw c.in_ok-push.ensures.items
      (shifts_more _ c.loop-k.shift c.loop-k.k c.args.turns.now c.args.far.now _ _ c.loop-k-test.true
      (elim c.if-is_long.branch [
        | then-is_long w ↦ adds_more _ _ c.is_long.result _ _ w.more_of.result c.is_long.ensures w.if-is_long.true w.more_of.ensures.value w.shift-is
        | else-is_long w ↦ adds_none _ _ c.is_long.result _ _ c.is_long.ensures w.if-is_long.false w.shift-is
      ]) ∙ c.loop-k.invariant.made);
  small = elim c.if-is_long.branch [ then-is_long w ↦ omega (arith, w.more_of.ensures.small) | else-is_long w ↦ omega arith ];
}
