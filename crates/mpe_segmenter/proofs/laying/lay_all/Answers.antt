-- The labels at the number of the next segment are that segment's.
use Rattle.std.proofs.Common.{◌≡◌, ◌∙◌, ◌++◌, ◌∷◌, [], List, true, length, sym, ap, arith, append_assoc}
use Rattle.std.specs.List.{list_all}
use Rattle.std.proofs.lemmas.Bool.{and_parts}
use Rattle.mpe_segmenter.specs.declared.segments.Segment.{Segment}
use Rattle.mpe_segmenter.specs.Counts.{is_fitting}
use Rattle.mpe_segmenter.specs.Programs.{tables_of}
use Rattle.mpe_segmenter.specs.SegmentViews.{segment_in, segments_in}
use Rattle.mpe_segmenter.proofs.FitLemmas.{fits}
use Rattle.mpe_segmenter.proofs.LayLemmas.{labels_at, label_count, as_many, part_step}
use Rattle.mpe_segmenter.proofs.laying.lay_all.Goals as goal

-- the next segment fits, and so do those behind it
left : (rest rest' : List Segment) (s : Segment) → rest ≡ s ∷ rest' → list_all is_fitting (segments_in rest) ≡ true → (is_fitting (segment_in s) ≡ true) × (list_all is_fitting (segments_in rest') ≡ true)
left rest rest' s e h = and_parts (is_fitting (segment_in s)) (list_all is_fitting (segments_in rest')) (sym (ap (λ ss. list_all is_fitting (segments_in ss)) e) ∙ h)

pub lay_segment-requires-clause-few : goal.lay_segment-requires-clause-few
lay_segment-requires-clause-few c =
    let next = c.in-Some.ensures.steps.0 in
    let there : c.loop-segment.yielded ++ c.in-Some.segment ∷ c.next.new.self.rest.items ≡ c.args.segments.items = ap (λ (ss : List Segment). c.loop-segment.yielded ++ ss) (sym next) ∙ c.loop-segment.invariant.all_there in
    let given = labels_at (tables_of (segments_in c.args.segments.items)) c.args.labels.now c.args.segments.items c.loop-segment.yielded c.in-Some.segment c.next.new.self.rest.items c.len-in-loop-segment.result c.index-labels-len.result
    c.requires.labels there (omega (arith, c.len-in-loop-segment.ensures, c.loop-segment.all.ok, as_many (tables_of (segments_in c.args.segments.items)) c.loop-segment.all.items c.loop-segment.yielded c.loop-segment.invariant.made)) c.index-labels-len.is in
    omega (
      arith,
      ap length (c.as_slice.ensures.value ∙ given),
      label_count (tables_of (segments_in c.args.segments.items)) (segment_in c.in-Some.segment),
      (fits (segment_in c.in-Some.segment) (left c.loop-segment.segment-iterator.rest.items c.next.new.self.rest.items c.in-Some.segment next c.loop-segment.invariant.fitting).0).entries,
    )

pub loop-segment-preserved : goal.loop-segment-preserved
loop-segment-preserved c =
    let next = c.in-Some.ensures.steps.0 in
    let there : c.loop-segment.yielded ++ c.in-Some.segment ∷ c.next.new.self.rest.items ≡ c.args.segments.items = ap (λ (ss : List Segment). c.loop-segment.yielded ++ ss) (sym next) ∙ c.loop-segment.invariant.all_there in
    let given = labels_at (tables_of (segments_in c.args.segments.items)) c.args.labels.now c.args.segments.items c.loop-segment.yielded c.in-Some.segment c.next.new.self.rest.items c.len-in-loop-segment.result c.index-labels-len.result
    c.requires.labels there (omega (arith, c.len-in-loop-segment.ensures, c.loop-segment.all.ok, as_many (tables_of (segments_in c.args.segments.items)) c.loop-segment.all.items c.loop-segment.yielded c.loop-segment.invariant.made)) c.index-labels-len.is in
    record {
      fitting = (left c.loop-segment.segment-iterator.rest.items c.next.new.self.rest.items c.in-Some.segment next c.loop-segment.invariant.fitting).1;
      all_there = append_assoc c.loop-segment.yielded (c.in-Some.segment ∷ []) c.next.new.self.rest.items ∙ there;
      made = part_step (tables_of (segments_in c.args.segments.items)) c.loop-segment.all.items c.push.new.self.items c.loop-segment.yielded c.in-Some.segment c.in_ok-words.words c.as_slice.result.now c.in_ok-push.ensures.items c.loop-segment.invariant.made
          c.in_ok-words.ensures (c.as_slice.ensures.value ∙ given);
    }
