use Rattle.std.proofs.Common.{◌≡◌, true}
use Rattle.std.specs.List.{list_all}
use Rattle.mpe_segmenter.specs.Entered.{is_few}
use Rattle.mpe_segmenter.specs.PartViews.{parts_in}
use Rattle.mpe_segmenter.specs.SegmentViews.{segments_in}
use Rattle.mpe_segmenter.proofs.entering.entered.Given as goal

-- the segments so far are those of the parts so far; the parts left are few too
abbrev pub invariant-loop-part : goal.invariant-loop-part
invariant-loop-part l = record {
  segments : segments_in l.segments.items ≡ parts_in l.yielded;
  few : list_all is_few (parts_in l.part-iterator.rest.items) ≡ true;
}
