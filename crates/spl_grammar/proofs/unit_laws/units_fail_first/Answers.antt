use Rattle.spl_grammar.proofs.UnitReachLaws.{units_reach}
use Rattle.spl_grammar.proofs.ReachLaws.{fault_first}
use Rattle.spl_grammar.proofs.unit_laws.units_fail_first.Goals as goal

-- a chain goes no further than the reader
pub returns : goal.returns
returns c = fault_first _ _ units_reach
