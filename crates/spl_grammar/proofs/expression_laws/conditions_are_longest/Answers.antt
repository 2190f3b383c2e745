use Rattle.spl_grammar.proofs.ReachLaws.{conditions_reach, longest}
use Rattle.spl_grammar.proofs.expression_laws.conditions_are_longest.Goals as goal

-- a chain goes no further than the reader
pub returns : goal.returns
returns c = longest _ _ conditions_reach
