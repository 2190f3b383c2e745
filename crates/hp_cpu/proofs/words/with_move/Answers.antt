-- The row of the group is the instruction's.
use Rattle.std.proofs.Common.{sym, subst}
use Rattle.hp_flat.specs.Step.{word_row}
use Rattle.hp_tos.specs.StackView.{seen}
use Rattle.hp_cpu.specs.Acts.{Acts}
use Rattle.hp_cpu.specs.Answers.{done}
use Rattle.hp_cpu.proofs.ActLemmas.{move_acts}
use Rattle.hp_cpu.proofs.words.with_move.Goals as goal

pub returns : goal.returns
returns g c = λ program here. subst (λ a. Acts program (word_row program c.args.i) c.args.i c.args.regs.now (seen c.args.stack.now) (done a) c.move_op.new.regs (seen c.move_op.new.stack))
    (sym c.moved.ensures) (move_acts program c.args.i _ _ _ _ c.move_op.result c.requires (c.move_op.ensures program here))
