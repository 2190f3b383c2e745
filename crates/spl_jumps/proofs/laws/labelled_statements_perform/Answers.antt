-- The label's word, and then the statement.
use Rattle.spl_jumps.proofs.LabelLemmas.{labelled, unreached, unlabelled_at, labelled_at}
use Rattle.spl_jumps.proofs.laws.labelled_statements_perform.Goals as goal

pub returns-clause-marked : goal.returns-clause-marked
returns-clause-marked c = labelled

pub returns-clause-unmarked : goal.returns-clause-unmarked
returns-clause-unmarked c = unreached

pub returns-clause-none : goal.returns-clause-none
returns-clause-none c = unlabelled_at

pub returns-clause-at : goal.returns-clause-at
returns-clause-at c = labelled_at
