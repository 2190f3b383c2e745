-- The row of SCAL.
use Rattle.std.proofs.Common.{sym, subst}
use Rattle.hp_instr.specs.declared.instruction.Instr.TheVariants.{Control}
use Rattle.hp_flat.specs.Step.{word_row}
use Rattle.hp_tos.specs.StackView.{seen}
use Rattle.hp_cpu.specs.Acts.{Acts}
use Rattle.hp_calls.specs.Transfers.{IsReady}
use Rattle.hp_cpu.proofs.ActLemmas.{subroutine_called_acts}
use Rattle.hp_cpu.proofs.ReadyLemmas.{done_ready}
use Rattle.hp_cpu.proofs.transfers.with_subroutine_call.Goals as goal

pub returns : goal.returns
returns g c = record {
  acts = λ program here. subst (λ a. Acts program (word_row program (Control 3 c.args.n)) (Control 3 c.args.n) c.args.regs.now (seen c.args.stack.now) a c.scal.new.regs (seen c.scal.new.stack))
      (sym c.done.ensures) (subroutine_called_acts program c.args.n _ _ _ _ c.scal.result (c.scal.ensures program here));
  ready = subst (λ a. IsReady a (seen c.scal.new.stack)) (sym c.done.ensures) (done_ready c.scal.result (seen c.scal.new.stack));
}
