use Rattle.std.proofs.Common.{◌≡◌, drop}
use Rattle.mpe_segmenter.specs.Counts.{entries_full}
use Rattle.mpe_segmenter.specs.SegmentViews.{segments_in}
use Rattle.mpe_segmenter.proofs.counts.entries_fault.Given as goal

-- the first of the segments left is the first of all
abbrev pub invariant-loop-segment : goal.invariant-loop-segment
invariant-loop-segment l = entries_full (segments_in (drop l.segment-index l.segments)) ≡ entries_full (segments_in l.segments)
