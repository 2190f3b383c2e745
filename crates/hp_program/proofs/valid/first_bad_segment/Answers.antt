-- Each turn is one step of the definition at the segment here.
use Rattle.std.proofs.Common.{◌≡◌, ◌<◌, ◌∙◌, sym, length, true, false}
use Rattle.hp_program.specs.Valid.{is_well_sized}
use Rattle.hp_program.proofs.ValidLemmas.{segment_good, segment_ends}
use Rattle.hp_program.proofs.valid.first_bad_segment.Goals as goal

pub returns-then-not-well_sized : goal.returns-then-not-well_sized
returns-then-not-well_sized c =
    let bad : is_well_sized c.index-segments-s.result.items ≡ false = cc in
    let here : c.loop-s.s < length c.args.segments.now = c.loop-s-test.true in
    sym (segment_ends c.args.segments.now c.loop-s.s c.index-segments-s.result here c.index-segments-s.is bad) ∙ c.loop-s.invariant

pub loop-s-preserved : goal.loop-s-preserved
loop-s-preserved c =
    let good : is_well_sized c.index-segments-s.result.items ≡ true = cc in
    let here : c.loop-s.s < length c.args.segments.now = c.loop-s-test.true in
    sym (segment_good c.args.segments.now c.loop-s.s c.index-segments-s.result here c.index-segments-s.is good) ∙ c.loop-s.invariant
