-- A segment has at most as many entries as modules, defines and wants.
use Rattle.std.proofs.Common.{length, ap, arith}
use Rattle.mpe_segmenter.proofs.CountLemmas.{entries_most}
use Rattle.mpe_segmenter.proofs.counts.count_entries.Goals as goal

pub overflow_add-result : goal.overflow_add-result
overflow_add-result c =
    omega (arith, c.args.segment.now.entered.own_count, ap length c.args.segment.now.entered.wants, c.len.ensures, entries_most c.args.segment.now.modules.items, c.args.segment.now.few)

pub overflow_cast-result : goal.overflow_cast-result
overflow_cast-result c =
    omega (arith, c.args.segment.now.entered.own_count, ap length c.args.segment.now.entered.wants, c.len.ensures, entries_most c.args.segment.now.modules.items, c.args.segment.now.few)
