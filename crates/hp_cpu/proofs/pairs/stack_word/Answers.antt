-- By whether both operations are listed.
use Rattle.std.proofs.Common.{sym, ◌∙◌}
use Rattle.hp_cpu.specs.Answers.{done}
use Rattle.hp_cpu.proofs.ActLemmas.{stack_illegal, stack_pair}
use Rattle.hp_cpu.proofs.pairs.stack_word.Goals as goal

pub returns-then-not-are_listed : goal.returns-then-not-are_listed
returns-then-not-are_listed c = λ program. stack_illegal program c.args.w _ _ c.requires (sym c.are_listed.ensures ∙ c.if-not-are_listed.true)

pub returns : goal.returns
returns c = λ program. stack_pair program c.args.w _ _ (done c.pair.result) _ _ c.requires (sym c.are_listed.ensures ∙ c.if-not-are_listed.false) (c.pair.ensures program)
