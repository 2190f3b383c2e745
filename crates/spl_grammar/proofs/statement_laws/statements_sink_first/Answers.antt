use Rattle.spl_grammar.proofs.ReachLaws.{statements_reach, deep_first}
use Rattle.spl_grammar.proofs.statement_laws.statements_sink_first.Goals as goal

-- a chain goes no further than the reader
pub returns : goal.returns
returns c = deep_first _ _ statements_reach
