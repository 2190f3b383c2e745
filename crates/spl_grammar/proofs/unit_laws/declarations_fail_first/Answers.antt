use Rattle.spl_grammar.proofs.UnitReachLaws.{declarations_reach}
use Rattle.spl_grammar.proofs.ReachLaws.{fault_first}
use Rattle.spl_grammar.proofs.unit_laws.declarations_fail_first.Goals as goal

-- a chain goes no further than the reader
pub returns : goal.returns
returns c = λ procedures after segment. fault_first _ _ (declarations_reach procedures after segment)
