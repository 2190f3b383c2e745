-- Along the tree.
use Rattle.spl_call_indexes.proofs.ExpressionLaws.{indexed_code, indexed_reference}
use Rattle.spl_call_indexes.proofs.laws.expressions_are_indexed.Goals as goal

pub returns-clause-value : goal.returns-clause-value
returns-clause-value c = indexed_code

pub returns-clause-reference : goal.returns-clause-reference
returns-clause-reference c = indexed_reference
