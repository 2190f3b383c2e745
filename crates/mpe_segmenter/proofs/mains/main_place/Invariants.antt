use Rattle.std.proofs.Common.{◌≡◌, drop, true}
use Rattle.std.specs.List.{list_all}
use Rattle.mpe_segmenter.specs.Counts.{is_fitting}
use Rattle.mpe_segmenter.specs.Programs.{main_from}
use Rattle.mpe_segmenter.specs.SegmentViews.{segments_in}
use Rattle.mpe_segmenter.proofs.mains.main_place.Given as goal

-- the main body is in the segments left, if it is in any; they fit
abbrev pub invariant-loop-number : goal.invariant-loop-number
invariant-loop-number l = record {
  fitting : list_all is_fitting (segments_in (drop l.number l.segments)) ≡ true;
  left : main_from l.number (segments_in (drop l.number l.segments)) ≡ main_from 0 (segments_in l.segments);
}
