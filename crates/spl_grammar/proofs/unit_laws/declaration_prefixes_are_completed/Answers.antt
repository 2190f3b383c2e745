use Rattle.std.proofs.Common.{inr}
use Rattle.spl_grammar.proofs.CompletedLaws.{completes}
use Rattle.spl_grammar.proofs.CompletedUnits.{a_declaration, all_completed}
use Rattle.spl_grammar.proofs.unit_laws.declaration_prefixes_are_completed.Goals as goal

-- step by step, from the end of the chain
pub returns : goal.returns
returns c = λ procedures after q d n j k ts mid chain. completes (all_completed (inr a_declaration) chain) (λ us more x segment. let y = x segment in (y.tree, y.spelled))
