-- Operator by operator.
use Rattle.spl_word_operators.proofs.OperatorLemmas.{operated_whole, operated_simulates}
use Rattle.spl_word_operators.proofs.laws.operators_simulate.Goals as goal

pub returns-clause-whole : goal.returns-clause-whole
returns-clause-whole c = operated_whole

pub returns-clause-simulates : goal.returns-clause-simulates
returns-clause-simulates c = operated_simulates
