-- Each turn notes the names of the next module.
use Rattle.std.proofs.Common.{◌∙◌, ◌+◌, drop, sym, ap}
use Rattle.mpe_segmenter.specs.Faults.{define_names, callables}
use Rattle.mpe_segmenter.specs.Homes.{with_names}
use Rattle.mpe_segmenter.proofs.DefinedLemmas.{callables_front}
use Rattle.mpe_segmenter.proofs.HomeLemmas.{names_append}
use Rattle.mpe_segmenter.proofs.homes.note_modules.Goals as goal

pub loop-one-preserved : goal.loop-one-preserved
loop-one-preserved c =
    let rest = callables (drop (c.loop-one.one-index + 1) c.args.modules.now) in
    ap (λ es. with_names es c.args.number rest) (c.in_ok-note_defines.ensures ∙ ap (λ ds. with_names c.loop-one.homes c.args.number (define_names ds)) c.as_slice.ensures.value)
    ∙ sym (names_append (define_names c.one-item.result.defines.items) rest c.loop-one.homes c.args.number)
    ∙ ap (with_names c.loop-one.homes c.args.number) (sym (callables_front c.args.modules.now c.loop-one.one-index c.one-item.result c.loop-one-test.true c.one-item.is))
    ∙ c.loop-one.invariant
