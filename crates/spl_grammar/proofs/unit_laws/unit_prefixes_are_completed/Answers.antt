use Rattle.std.proofs.Common.{inr}
use Rattle.spl_grammar.proofs.CompletedLaws.{completes}
use Rattle.spl_grammar.proofs.CompletedUnits.{a_unit, all_completed}
use Rattle.spl_grammar.proofs.unit_laws.unit_prefixes_are_completed.Goals as goal

-- step by step, from the end of the chain
pub returns : goal.returns
returns c = λ q d n j k ts mid chain. completes (all_completed (inr a_unit) chain) (λ us more x e. let y = x e in (y.tree, y.spelled))
