use Rattle.spl_grammar.proofs.ReachLaws.{expressions_reach}
use Rattle.spl_grammar.proofs.expression_laws.expressions_reach.Goals as goal

-- completed, the chain's part would be read to its end; and what is open is counted as the reader counts
pub returns : goal.returns
returns c = expressions_reach
