use Rattle.spl_grammar.proofs.UnitReachLaws.{declarations_reach}
use Rattle.spl_grammar.proofs.ReachLaws.{longest}
use Rattle.spl_grammar.proofs.unit_laws.declarations_are_longest.Goals as goal

-- a chain goes no further than the reader
pub returns : goal.returns
returns c = λ procedures after segment. longest _ _ (declarations_reach procedures after segment)
