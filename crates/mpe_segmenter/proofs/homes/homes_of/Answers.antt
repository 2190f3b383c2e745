-- At the end no segment is left.
use Rattle.std.proofs.Common.{◌∙◌, ◌≡◌, sym, ap, drop, [], arith}
use Rattle.std.proofs.lemmas.List.{drop_all}
use Rattle.mpe_segmenter.specs.Homes.{with_parts}
use Rattle.mpe_segmenter.specs.SegmentViews.{segments_in}
use Rattle.mpe_segmenter.proofs.HomeLemmas.{are_homes}
use Rattle.mpe_segmenter.proofs.homes.homes_of.Goals as goal

pub returns : goal.returns
returns c =
    let done : drop c.loop-number.number c.args.segments.now ≡ [] = drop_all c.loop-number.number c.args.segments.now (omega arith) in
    are_homes (segments_in c.args.segments.now) c.loop-number.homes (sym (ap (λ ss. with_parts c.loop-number.homes c.loop-number.number (segments_in ss)) done) ∙ c.loop-number.invariant)
