-- Behind the last declaration none are left.
use Rattle.spl_gen_proc.proofs.Counts.{rooms_end, sum_last}
use Rattle.spl_gen_proc.proofs.units.rooms_among.Goals as goal

pub returns : goal.returns
returns c = sum_last c.loop-item.count _ _ c.loop-item.invariant (rooms_end c.args.list.now c.loop-item.item-index c.loop-item-test.false)
