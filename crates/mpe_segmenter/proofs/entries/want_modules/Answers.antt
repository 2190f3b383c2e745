-- Each turn wants what the next module wants.
use Rattle.std.proofs.Common.{◌∙◌, ◌+◌, drop, map, sym, ap}
use Rattle.mpe_segmenter.specs.Entries.{wanted_of, all_wants}
use Rattle.mpe_segmenter.specs.Walks.{with_wants}
use Rattle.mpe_segmenter.proofs.EntryLemmas.{modules_step, wants_append}
use Rattle.mpe_segmenter.proofs.entries.want_modules.Goals as goal

pub loop-one-preserved : goal.loop-one-preserved
loop-one-preserved c =
    let rest = all_wants (drop (c.loop-one.one-index + 1) c.args.modules.now) in
    ap (λ vs. with_wants c.args.called.now vs rest) (c.in_ok-want_all.ensures ∙ ap (λ ws. with_wants c.args.called.now c.loop-one.wanted (map wanted_of ws)) c.as_slice.ensures.value)
    ∙ sym (wants_append (map wanted_of c.one-item.result.wants.items) rest c.args.called.now c.loop-one.wanted)
    ∙ ap (λ ms. with_wants c.args.called.now c.loop-one.wanted (all_wants ms)) (sym (modules_step c.args.modules.now c.loop-one.one-index c.one-item.result c.loop-one-test.true c.one-item.is))
    ∙ c.loop-one.invariant
