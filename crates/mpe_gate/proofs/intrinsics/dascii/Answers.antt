-- The row of DASCII in either base is that of a text stored and answered.
use Rattle.std.proofs.Common.{arith}
use Rattle.std.proofs.lemmas.Grind.{common_steps}
use Rattle.hp_word.specs.declared.intrinsics.Intrinsic.TheVariants.{Dascii}
use Rattle.hp_call_rows.specs.GateRows.{performed, text_answered}
use Rattle.hp_call_rows.proofs.GateLemmas.{dascii_ten, dascii_eight}
use Rattle.hp_tos.specs.StackView.{seen}
use Rattle.mpe_gate.specs.Serves.{came}
use Rattle.mpe_gate.proofs.ServeLemmas.{serves_same}
use Rattle.mpe_gate.proofs.intrinsics.dascii.Goals as goal

pub returns-then-base-eq10 : goal.returns-then-base-eq10
returns-then-base-eq10 c = λ t.
    serves_same (performed Dascii) (text_answered 5 c.word-array.result c.deref.result.now) 1
    c.args.regs.now (seen c.args.stack.now) t (came c.answer_text.result)
    c.answer_text.new.regs (seen c.answer_text.new.stack) t
    (grind (arith, common_steps, dascii_ten)) (c.answer_text.ensures t)

pub returns-then-base-eq8 : goal.returns-then-base-eq8
returns-then-base-eq8 c = λ t.
    serves_same (performed Dascii) (text_answered 5 c.word-array.result c.deref-then-base-eq8.result.now) 1
    c.args.regs.now (seen c.args.stack.now) t (came c.answer_text-then-base-eq8.result)
    c.answer_text-then-base-eq8.new.regs (seen c.answer_text-then-base-eq8.new.stack) t
    (grind (arith, common_steps, dascii_eight)) (c.answer_text-then-base-eq8.ensures t)
