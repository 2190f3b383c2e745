-- Each branch gets its form: long where it was, or where it misses its mark.
use Rattle.std.proofs.Common.{◌∙◌, get_or}
use Rattle.spl_branch.specs.Rounds.{misses}
use Rattle.spl_branch.proofs.RoundLemmas.{no_turn, longer_more, or_left, or_right}
use Rattle.spl_branch.proofs.rounds.lengthened.Goals as goal
use Rattle.spl_branch.proofs.rounds.lengthened.Goals.{then-is_long, else-is_long}

pub loop-k-preserved : goal.loop-k-preserved
loop-k-preserved c =
    rw c.in_ok-push.ensures.items
    (longer_more c.loop-k.longer.items c.args.stands.now c.args.shifts.now c.loop-k.k c.args.turns.now c.args.far.now no_turn _ c.loop-k-test.true
    (elim c.if-is_long.branch [
      | then-is_long w ↦ or_left _ (misses c.args.stands.now c.args.shifts.now c.loop-k.k (get_or c.args.turns.now c.loop-k.k no_turn)) _ c.is_long.result c.is_long.ensures w.if-is_long.true (w.push-is ∙ w.if-is_long.true)
      | else-is_long w ↦ or_right _ _ _ c.is_long.result c.is_long.ensures w.if-is_long.false (w.push-is ∙ w.misses.ensures)
    ]) ∙ c.loop-k.invariant)
