-- The program that is found has the segment, or none is found.
use Rattle.std.proofs.Common.{◌<◌, length, List, ℕ, map, sym, ap, ◌∙◌, arith}
use Rattle.std.specs.Prelude.{slice_get}
use Rattle.std.specs.Global.{Vec}
use Rattle.std.proofs.lemmas.Bool.{ltb-true, ltb-false}
use Rattle.mpe_overlay.proofs.SegmentLemmas.{segment_none, segment_some}
use Rattle.mpe_overlay.proofs.words.find_segment.Goals as goal

pub returns-in-None : goal.returns-in-None
returns-in-None c =
    let past = ltb-false c.args.program (length c.args.programs.now) (sym (c.in-None.ensures {u = tt}).lookup.0) in
    sym (segment_none c.args.programs.now c.args.program c.args.seg (omega (arith, c.ranges.seg)) past)

pub returns-in-Some : goal.returns-in-Some
returns-in-Some c =
    let found = (c.in-Some.ensures {u = tt}).lookup in
    let lt : c.args.seg < 256 = omega (arith, c.ranges.seg) in
    let within = ltb-true c.args.program (length c.args.programs.now) (sym found.0) in
    c.segment_in.ensures ∙ ap (λ (ss : List (Vec ℕ)). slice_get (map (λ s. s.items) ss) c.args.seg) c.deref.ensures.value
    ∙ sym (segment_some c.args.programs.now c.args.program c.args.seg c.in-Some.program.now lt within found.1)
