-- Along the tree.
use Rattle.spl_stores.proofs.CoverLemmas.{statement_whole, covered_performs, covered_list_performs}
use Rattle.spl_stores.proofs.laws.covered_statements_perform.Goals as goal

pub returns-clause-whole : goal.returns-clause-whole
returns-clause-whole c = statement_whole

pub returns-clause-one : goal.returns-clause-one
returns-clause-one c = covered_performs

pub returns-clause-all : goal.returns-clause-all
returns-clause-all c = covered_list_performs
