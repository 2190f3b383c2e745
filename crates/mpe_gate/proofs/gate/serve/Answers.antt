-- What was carried out is passed.
use Rattle.hp_tos.specs.StackView.{seen}
use Rattle.mpe_gate.proofs.ServeLemmas.{serves_by}
use Rattle.mpe_gate.proofs.gate.serve.Goals as goal

pub returns : goal.returns
returns c = rw c.finish.ensures.value (
    serves_by c.args.entry c.args.regs.now (seen c.args.stack.now) c.args.terminal.now c.perform-answer.result
    c.perform-answer.new.regs c.finish.new.regs (seen c.perform-answer.new.stack) c.perform-answer.new.terminal
    c.perform-answer.ensures c.finish.ensures.ok c.finish.ensures.err)
