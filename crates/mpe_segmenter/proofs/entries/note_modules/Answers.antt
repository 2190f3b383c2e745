-- There are at most as many entries as modules and defines.
use Rattle.std.proofs.Common.{arith}
use Rattle.mpe_segmenter.proofs.EntryLemmas.{own_fits}
use Rattle.mpe_segmenter.proofs.entries.note_modules.Goals as goal

pub note_defines-requires : goal.note_defines-requires
note_defines-requires c =
    omega (arith, c.as_slice.ensures.len, (own_fits c.args.modules.now c.loop-one.one-index c.one-item.result c.loop-one.own c.loop-one-test.true c.one-item.is c.loop-one.invariant.own c.requires).1, c.as_slice.ensures.value)

pub overflow_add-own : goal.overflow_add-own
overflow_add-own c =
    omega (arith, c.own_count-own.ensures, (own_fits c.args.modules.now c.loop-one.one-index c.one-item.result c.loop-one.own c.loop-one-test.true c.one-item.is c.loop-one.invariant.own c.requires).0)
