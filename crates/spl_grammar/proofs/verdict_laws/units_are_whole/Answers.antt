use Rattle.spl_grammar.proofs.UnitEnds.{unit_whole}
use Rattle.spl_grammar.proofs.verdict_laws.units_are_whole.Goals as goal

-- the last token that is read is the end
pub returns : goal.returns
returns c = λ room u ts us e q. unit_whole room e q
