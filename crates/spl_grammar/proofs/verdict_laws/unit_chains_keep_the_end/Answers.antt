use Rattle.spl_grammar.proofs.UnitEnds.{unit_chain_ended}
use Rattle.spl_grammar.proofs.verdict_laws.unit_chains_keep_the_end.Goals as goal

-- the unit that completes a chain has its end behind it
pub returns : goal.returns
returns c = λ q d n j k ts mid chain e. unit_chain_ended chain e
