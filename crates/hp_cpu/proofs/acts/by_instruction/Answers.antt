-- By the group of the instruction.
use Rattle.std.proofs.Common.{◌∙◌}
use Rattle.hp_cpu.proofs.CameLemmas.{call_came, plain_came}
use Rattle.hp_cpu.proofs.acts.by_instruction.Goals as goal

pub returns-in-Call-clause-came : goal.returns-in-Call-clause-came
returns-in-Call-clause-came g c = λ program count here ready. call_came program _ _ _ c.transfer_at_left.result _ _ _ _ _ c.answered.ensures.value c.answered.ensures.phase ready (c.transfer_at_left.ensures.acts program count here)

pub returns-in-Stack-clause-came : goal.returns-in-Stack-clause-came
returns-in-Stack-clause-came g c = λ program count here ready. plain_came program _ _ _ c.pair_of.result _ _ _ _ c.plain.ensures ready (c.pair_of.ensures program)

pub returns-in_default-clause-came : goal.returns-in_default-clause-came
returns-in_default-clause-came g c = λ program count here ready. plain_came program _ _ _ c.word_at_left.result _ _ _ _ c.plain-in_default.ensures ready (c.word_at_left.ensures program here (λ e. c.in_default.not-Stack (c.group_of.ensures ∙ e)) (λ e. c.in_default.not-Call (c.group_of.ensures ∙ e)))
