use Rattle.spl_grammar.proofs.ReachLaws.{statements_reach, longest}
use Rattle.spl_grammar.proofs.statement_laws.statements_are_longest.Goals as goal

-- a chain goes no further than the reader
pub returns : goal.returns
returns c = longest _ _ statements_reach
