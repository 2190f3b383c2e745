use Rattle.std.proofs.Common.{◌≡◌, map, take, drop, true}
use Rattle.std.specs.List.{list_all}
use Rattle.mpe_segmenter.specs.Counts.{is_fitting}
use Rattle.mpe_segmenter.specs.Programs.{tables_of, label_words}
use Rattle.mpe_segmenter.specs.SegmentViews.{segments_in}
use Rattle.mpe_segmenter.proofs.labels.all_labels.Given as goal

-- the labels of the segments so far; those left fit
abbrev pub invariant-loop-segment : goal.invariant-loop-segment
invariant-loop-segment l = record {
  fitting : list_all is_fitting (segments_in (drop l.segment-index l.segments)) ≡ true;
  made : map (λ v. v.items) l.all.items ≡ map (label_words (tables_of (segments_in l.segments))) (segments_in (take l.segment-index l.segments));
}
