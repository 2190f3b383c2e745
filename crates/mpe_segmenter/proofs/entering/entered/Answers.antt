-- The next part is one of those that are left.
use Rattle.std.proofs.Common.{◌∙◌, ◌++◌, ◌∷◌, [], List, sym, ap}
use Rattle.std.specs.List.{list_all}
use Rattle.std.proofs.lemmas.List.{map_push}
use Rattle.std.proofs.lemmas.Bool.{and_parts, ltb-true}
use Rattle.mpe_segmenter.specs.Names.{Part}
use Rattle.mpe_segmenter.specs.Entered.{is_few}
use Rattle.mpe_segmenter.specs.PartViews.{part_of, parts_in}
use Rattle.mpe_segmenter.specs.SegmentViews.{segment_in, segments_in}
use Rattle.mpe_segmenter.proofs.entering.entered.Goals as goal

pub enter-requires : goal.enter-requires
enter-requires c =
    let all = sym (ap (λ ps. list_all is_few (parts_in ps)) c.in-Some.ensures.steps.0) ∙ c.loop-part.invariant.few in
    ltb-true _ _ (and_parts (is_few (part_of c.in-Some.part)) (list_all is_few (parts_in c.next.new.self.rest.items)) all).0

pub loop-part-preserved : goal.loop-part-preserved
loop-part-preserved c =
    let all = sym (ap (λ ps. list_all is_few (parts_in ps)) c.in-Some.ensures.steps.0) ∙ c.loop-part.invariant.few in
    record {
      segments = ap segments_in c.in_ok-push.ensures.items ∙ map_push segment_in c.loop-part.segments.items c.in_ok-enter.field-0
          ∙ ap (λ (ps : List Part). ps ++ segment_in c.in_ok-enter.field-0 ∷ []) c.loop-part.invariant.segments
          ∙ ap (λ (p : Part). parts_in c.loop-part.yielded ++ p ∷ []) c.in_ok-enter.ensures
          ∙ sym (map_push part_of c.loop-part.yielded c.in-Some.part);
      few = (and_parts (is_few (part_of c.in-Some.part)) (list_all is_few (parts_in c.next.new.self.rest.items)) all).1;
    }
