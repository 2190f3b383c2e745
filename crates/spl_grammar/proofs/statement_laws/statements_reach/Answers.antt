use Rattle.spl_grammar.proofs.ReachLaws.{statements_reach}
use Rattle.spl_grammar.proofs.statement_laws.statements_reach.Goals as goal

-- completed, the chain's part would be read to its end; and what is open is counted as the reader counts
pub returns : goal.returns
returns c = statements_reach
