-- Each turn is one step of the definition at the segment here.
use Rattle.std.proofs.Common.{◌≡◌, ℕ, ◌∙◌, sym, ap, map, List, None, Some}
use Rattle.hp_program.specs.Valid.{bad_label, entries_of}
use Rattle.hp_program.proofs.ValidLemmas.{table_good, table_ends, sized_next}
use Rattle.hp_program.proofs.valid.first_bad_table.Goals as goal

pub returns-in-Some : goal.returns-in-Some
returns-in-Some c =
    let segments : List (List ℕ) = map (λ s. s.items) c.args.segments.now in
    let label : List ℕ → _ = λ (ws : List ℕ). bad_label segments c.loop-s.s ws 1 (entries_of ws) in
    let bad : bad_label segments c.loop-s.s c.index-segments-s.result.items 1 (entries_of c.index-segments-s.result.items) ≡ Some c.in-Some.defect =
    sym (ap label c.deref.ensures.value) ∙ sym c.first_bad_label.ensures ∙ c.in-Some.is in
    sym (table_ends segments c.args.segments.now c.loop-s.s c.index-segments-s.result c.in-Some.defect c.loop-s-test.true c.index-segments-s.is bad) ∙ c.loop-s.invariant.found

pub loop-s-preserved : goal.loop-s-preserved
loop-s-preserved c =
    let segments : List (List ℕ) = map (λ s. s.items) c.args.segments.now in
    let label : List ℕ → _ = λ (ws : List ℕ). bad_label segments c.loop-s.s ws 1 (entries_of ws) in
    let good : bad_label segments c.loop-s.s c.index-segments-s.result.items 1 (entries_of c.index-segments-s.result.items) ≡ None =
    sym (ap label c.deref.ensures.value) ∙ sym c.first_bad_label.ensures ∙ c.in_default.is in
    record {
      sized = sized_next c.args.segments.now c.loop-s.s c.index-segments-s.result c.loop-s-test.true c.index-segments-s.is c.loop-s.invariant.sized;
      found = sym (table_good segments c.args.segments.now c.loop-s.s c.index-segments-s.result c.loop-s-test.true c.index-segments-s.is good) ∙ c.loop-s.invariant.found;
    }
