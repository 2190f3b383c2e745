-- The own entries of a segment that fits are few.
use Rattle.std.proofs.Common.{ap, arith}
use Rattle.mpe_segmenter.specs.Entries.{owned}
use Rattle.mpe_segmenter.proofs.EntryLemmas.{length-owns}
use Rattle.mpe_segmenter.proofs.FitLemmas.{next_fits}
use Rattle.mpe_segmenter.proofs.mains.main_place.Goals as goal

pub main_entry-requires : goal.main_entry-requires
main_entry-requires c =
    omega (
      arith,
      ap owned c.as_slice.ensures.value,
      length-owns c.index-segments-number.result.modules.items 0,
      (next_fits c.args.segments.now c.loop-number.number c.index-segments-number.result c.loop-number-test.true c.index-segments-number.is c.loop-number.invariant.fitting).entries,
    )
