use Rattle.std.proofs.Common.{◌≡◌, ◌++◌, map, true}
use Rattle.std.specs.List.{list_all}
use Rattle.mpe_segmenter.specs.Counts.{is_fitting}
use Rattle.mpe_segmenter.specs.Programs.{tables_of, part_words}
use Rattle.mpe_segmenter.specs.SegmentViews.{segments_in}
use Rattle.mpe_segmenter.proofs.laying.lay_all.Given as goal

-- the words of the segments so far; those left fit
abbrev pub invariant-loop-segment : goal.invariant-loop-segment
invariant-loop-segment l = record {
  fitting : list_all is_fitting (segments_in l.segment-iterator.rest.items) ≡ true;
  all_there : l.yielded ++ l.segment-iterator.rest.items ≡ l.fn.segments.items;
  made : map (λ w. w.items) l.all.items ≡ map (part_words (tables_of (segments_in l.fn.segments.items))) (segments_in l.yielded);
}
