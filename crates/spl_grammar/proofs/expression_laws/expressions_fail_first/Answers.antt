use Rattle.spl_grammar.proofs.ReachLaws.{expressions_reach, fault_first}
use Rattle.spl_grammar.proofs.expression_laws.expressions_fail_first.Goals as goal

-- a chain goes no further than the reader
pub returns : goal.returns
returns c = fault_first _ _ expressions_reach
