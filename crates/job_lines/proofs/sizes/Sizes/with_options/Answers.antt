-- An option that is taken leads on, and one that is none ends all.
use Rattle.std.proofs.Common.{◌∙◌, sym, get_or, []}
use Rattle.job_lines.proofs.OptionLemmas.{option_taken, option_wrong, any_item}
use Rattle.job_lines.proofs.sizes.Sizes.with_options.Goals as goal

pub returns-in_err-sizes : goal.returns-in_err-sizes
returns-in_err-sizes c =
    let word = get_or c.args.words.now c.loop-word.word-index (record { ref_ptr = (0, 0); now = [] }) in
    c.from_residual.ensures
    ∙ sym (sym c.loop-word.invariant
    ∙ option_wrong c.args.words.now c.loop-word.word-index word c.loop-word.sizes c.loop-word-test.true (any_item c.args.words.now c.loop-word.word-index _ c.loop-word-test.true)
    (sym c.with_option.ensures ∙ c.in_err-sizes.was))

pub loop-word-preserved : goal.loop-word-preserved
loop-word-preserved c =
    let word = get_or c.args.words.now c.loop-word.word-index (record { ref_ptr = (0, 0); now = [] }) in
    sym (option_taken c.args.words.now c.loop-word.word-index word c.loop-word.sizes c.in_ok-sizes.sizes c.loop-word-test.true
    (any_item c.args.words.now c.loop-word.word-index _ c.loop-word-test.true) (sym c.with_option.ensures ∙ c.in_ok-sizes.was))
    ∙ c.loop-word.invariant
