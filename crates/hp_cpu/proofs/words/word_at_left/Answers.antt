-- R is cleared for the word, and comes back where it is not done.
use Rattle.std.proofs.Common.{sym, subst}
use Rattle.hp_flat.specs.Step.{row}
use Rattle.hp_tos.specs.StackView.{seen}
use Rattle.hp_cpu.specs.Acts.{Acts}
use Rattle.hp_cpu.specs.Answers.{done}
use Rattle.hp_cpu.proofs.ActLemmas.{at_left_acts}
use Rattle.hp_cpu.proofs.words.word_at_left.Goals as goal

pub returns : goal.returns
returns g c = λ program here whole other.
    subst (λ r. Acts program (row program c.args.i) c.args.i c.args.regs.now (seen c.args.stack.now) (done c.whole_word-answer.result) r (seen c.whole_word-answer.new.stack))
    (sym c.restore.ensures) (at_left_acts program c.args.i c.args.regs.now _ (done c.whole_word-answer.result) _ _ whole (c.whole_word-answer.ensures program here whole other))
