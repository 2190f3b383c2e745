-- Each is its lemma.
use Rattle.spl_follow.proofs.RowLemmas.{row_value, row_drops, row_stores, row_stores_far, row_tests, row_branches}
use Rattle.spl_follow.proofs.PartLemmas.{rows_trap}
use Rattle.spl_follow.proofs.laws.rows_do_what_code_says.Goals as goal

pub returns-clause-value : goal.returns-clause-value
returns-clause-value c = row_value

pub returns-clause-dropped : goal.returns-clause-dropped
returns-clause-dropped c = row_drops

pub returns-clause-stored : goal.returns-clause-stored
returns-clause-stored c = row_stores

pub returns-clause-far : goal.returns-clause-far
returns-clause-far c = row_stores_far

pub returns-clause-tested : goal.returns-clause-tested
returns-clause-tested c = row_tests

pub returns-clause-trapped : goal.returns-clause-trapped
returns-clause-trapped c = rows_trap

pub returns-clause-branched : goal.returns-clause-branched
returns-clause-branched c = row_branches
