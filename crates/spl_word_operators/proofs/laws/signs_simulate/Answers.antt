-- Operator by operator.
use Rattle.spl_word_operators.proofs.UnaryLemmas.{sign_whole, sign_simulates}
use Rattle.spl_word_operators.proofs.laws.signs_simulate.Goals as goal

pub returns-clause-whole : goal.returns-clause-whole
returns-clause-whole c = sign_whole

pub returns-clause-simulates : goal.returns-clause-simulates
returns-clause-simulates c = sign_simulates
