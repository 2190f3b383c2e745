-- Along the tree.
use Rattle.spl_covered.proofs.CoverLemmas.{tests_whole, covered_tests}
use Rattle.spl_covered.proofs.laws.covered_tests_simulate.Goals as goal

pub returns-clause-whole : goal.returns-clause-whole
returns-clause-whole c = tests_whole

pub returns-clause-truth : goal.returns-clause-truth
returns-clause-truth c = covered_tests
