-- Along the tree.
use Rattle.spl_call_indexes.proofs.StatementLaws.{indexed_statement, indexed_listed}
use Rattle.spl_call_indexes.proofs.laws.statements_are_indexed.Goals as goal

pub returns-clause-one : goal.returns-clause-one
returns-clause-one c = indexed_statement

pub returns-clause-list : goal.returns-clause-list
returns-clause-list c = indexed_listed
