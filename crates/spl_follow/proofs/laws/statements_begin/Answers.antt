-- The step pays for the code, and what is noted is what the machine has.
use Rattle.spl_follow.proofs.PartLemmas.{statements_begin_noted, statements_begin_plain, empty_runs}
use Rattle.spl_follow.proofs.laws.statements_begin.Goals as goal

pub returns-clause-noted : goal.returns-clause-noted
returns-clause-noted c = statements_begin_noted

pub returns-clause-plain : goal.returns-clause-plain
returns-clause-plain c = statements_begin_plain

pub returns-clause-empty : goal.returns-clause-empty
returns-clause-empty c = empty_runs
