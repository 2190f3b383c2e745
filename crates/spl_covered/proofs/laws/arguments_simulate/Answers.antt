-- Along the tree.
use Rattle.spl_covered.proofs.CoverLemmas.{arguments_whole, arguments_give}
use Rattle.spl_covered.proofs.laws.arguments_simulate.Goals as goal

pub returns-clause-whole : goal.returns-clause-whole
returns-clause-whole c = arguments_whole

pub returns-clause-simulates : goal.returns-clause-simulates
returns-clause-simulates c = arguments_give
