-- By the words of the value.
use Rattle.spl_follow.proofs.PartLemmas.{values_tested, tests_decide}
use Rattle.spl_follow.proofs.laws.values_are_tested.Goals as goal

pub returns-clause-test : goal.returns-clause-test
returns-clause-test c = values_tested

pub returns-clause-truth : goal.returns-clause-truth
returns-clause-truth c = tests_decide
