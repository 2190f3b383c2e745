-- R is cleared for the word, and comes back where it is not done.
use Rattle.std.proofs.Common.{sym, subst}
use Rattle.hp_flat.specs.Step.{row}
use Rattle.hp_tos.specs.StackView.{seen}
use Rattle.hp_cpu.specs.Acts.{Acts}
use Rattle.hp_cpu.proofs.ActLemmas.{at_left_acts}
use Rattle.hp_cpu.proofs.transfers.transfer_at_left.Goals as goal

pub returns : goal.returns
returns g c = record {
  acts = λ program count here. subst (λ r. Acts program (row program c.args.i) c.args.i c.args.regs.now (seen c.args.stack.now) c.transfer-answer.result r (seen c.transfer-answer.new.stack))
      (sym c.restore.ensures) (at_left_acts program c.args.i c.args.regs.now _ c.transfer-answer.result _ _ (λ k. let call = c.requires in cc) (c.transfer-answer.ensures.acts program count here));
  ready = c.transfer-answer.ensures.ready;
}
