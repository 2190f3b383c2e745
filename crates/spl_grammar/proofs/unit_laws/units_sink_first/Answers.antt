use Rattle.spl_grammar.proofs.UnitReachLaws.{units_reach}
use Rattle.spl_grammar.proofs.ReachLaws.{deep_first}
use Rattle.spl_grammar.proofs.unit_laws.units_sink_first.Goals as goal

-- a chain goes no further than the reader
pub returns : goal.returns
returns c = deep_first _ _ units_reach
