use Rattle.spl_grammar.proofs.ReachLaws.{conditions_reach, fault_first}
use Rattle.spl_grammar.proofs.expression_laws.conditions_fail_first.Goals as goal

-- a chain goes no further than the reader
pub returns : goal.returns
returns c = fault_first _ _ conditions_reach
