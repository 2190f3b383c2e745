use Rattle.spl_grammar.proofs.ReachLaws.{expressions_reach, longest}
use Rattle.spl_grammar.proofs.expression_laws.expressions_are_longest.Goals as goal

-- a chain goes no further than the reader
pub returns : goal.returns
returns c = longest _ _ expressions_reach
