use Rattle.spl_grammar.proofs.UnitReachLaws.{declarations_reach}
use Rattle.spl_grammar.proofs.ReachLaws.{deep_first}
use Rattle.spl_grammar.proofs.unit_laws.declarations_sink_first.Goals as goal

-- a chain goes no further than the reader
pub returns : goal.returns
returns c = λ procedures after segment. deep_first _ _ (declarations_reach procedures after segment)
