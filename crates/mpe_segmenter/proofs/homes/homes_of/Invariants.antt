use Rattle.std.proofs.Common.{◌≡◌, [], drop}
use Rattle.mpe_segmenter.specs.Homes.{with_parts}
use Rattle.mpe_segmenter.specs.SegmentViews.{segments_in}
use Rattle.mpe_segmenter.proofs.homes.homes_of.Given as goal

-- the names so far and those of the segments left are all
abbrev pub invariant-loop-number : goal.invariant-loop-number
invariant-loop-number l = with_parts l.homes l.number (segments_in (drop l.number l.segments)) ≡ with_parts [] 0 (segments_in l.segments)
