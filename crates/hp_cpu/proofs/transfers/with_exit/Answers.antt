-- The row of EXIT.
use Rattle.std.proofs.Common.{sym, subst}
use Rattle.hp_instr.specs.declared.instruction.Instr.TheVariants.{Control}
use Rattle.hp_flat.specs.Step.{word_row}
use Rattle.hp_tos.specs.StackView.{seen}
use Rattle.hp_cpu.specs.Acts.{Acts}
use Rattle.hp_calls.specs.Transfers.{IsReady}
use Rattle.hp_cpu.proofs.ActLemmas.{exit_acts}
use Rattle.hp_cpu.proofs.ReadyLemmas.{went_ready}
use Rattle.hp_cpu.proofs.transfers.with_exit.Goals as goal

pub returns : goal.returns
returns c = record {
  acts = λ program count. subst (λ a. Acts program (word_row program (Control 1 c.args.n)) (Control 1 c.args.n) c.args.regs.now (seen c.args.stack.now) a c.exit.new.regs (seen c.exit.new.stack))
      (sym c.on_its_way.ensures) (exit_acts program c.args.n _ _ _ _ c.exit.result (c.exit.ensures.row program count) c.exit.ensures.phase);
  ready = subst (λ a. IsReady a (seen c.exit.new.stack)) (sym c.on_its_way.ensures) (went_ready c.exit.result (seen c.exit.new.stack));
}
