use Rattle.std.proofs.Common.{◌≡◌, drop, None}
use Rattle.mpe_segmenter.specs.Counts.{entries_full, segment_full}
use Rattle.mpe_segmenter.specs.SegmentViews.{segments_in}
use Rattle.mpe_segmenter.proofs.counts.words_fault.Given as goal

-- the first of the segments left is the first of all; none of them has too many entries
abbrev pub invariant-loop-segment : goal.invariant-loop-segment
invariant-loop-segment l = record {
  left : segment_full (segments_in (drop l.segment-index l.segments)) ≡ segment_full (segments_in l.segments);
  few : entries_full (segments_in (drop l.segment-index l.segments)) ≡ None;
}
