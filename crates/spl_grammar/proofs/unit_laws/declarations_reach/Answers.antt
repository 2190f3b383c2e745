use Rattle.spl_grammar.proofs.UnitReachLaws.{declarations_reach}
use Rattle.spl_grammar.proofs.unit_laws.declarations_reach.Goals as goal

-- completed, the chain's part would be read to its end; and what is open is counted as the reader counts
pub returns : goal.returns
returns c = declarations_reach
