-- By the word's major.
use Rattle.hp_cpu.proofs.CameLemmas.{plain_came}
use Rattle.hp_cpu.proofs.acts.act.Goals as goal

pub returns-then-w-lt4096-clause-came : goal.returns-then-w-lt4096-clause-came
returns-then-w-lt4096-clause-came g c = λ program count here ready. plain_came program _ _ _ c.stack_word.result _ _ _ _ c.plain.ensures ready (c.stack_word.ensures program)
