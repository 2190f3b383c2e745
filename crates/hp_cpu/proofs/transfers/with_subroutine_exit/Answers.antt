-- The row of SXIT.
use Rattle.std.proofs.Common.{sym, subst}
use Rattle.hp_instr.specs.declared.instruction.Instr.TheVariants.{Control}
use Rattle.hp_flat.specs.Step.{word_row}
use Rattle.hp_tos.specs.StackView.{seen}
use Rattle.hp_cpu.specs.Acts.{Acts}
use Rattle.hp_calls.specs.Transfers.{IsReady}
use Rattle.hp_cpu.proofs.ActLemmas.{subroutine_left_acts}
use Rattle.hp_cpu.proofs.ReadyLemmas.{done_ready}
use Rattle.hp_cpu.proofs.transfers.with_subroutine_exit.Goals as goal

pub returns : goal.returns
returns c = record {
  acts = λ program. subst (λ a. Acts program (word_row program (Control 2 c.args.n)) (Control 2 c.args.n) c.args.regs.now (seen c.args.stack.now) a c.sxit.new.regs (seen c.sxit.new.stack))
      (sym c.done.ensures) (subroutine_left_acts program c.args.n _ _ _ _ c.sxit.result c.sxit.ensures);
  ready = subst (λ a. IsReady a (seen c.sxit.new.stack)) (sym c.done.ensures) (done_ready c.sxit.result (seen c.sxit.new.stack));
}
