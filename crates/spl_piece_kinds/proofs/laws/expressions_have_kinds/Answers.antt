-- Along the tree.
use Rattle.spl_piece_kinds.proofs.ExpressionLaws.{kinds_code, kinds_reference}
use Rattle.spl_piece_kinds.proofs.laws.expressions_have_kinds.Goals as goal

pub returns-clause-value : goal.returns-clause-value
returns-clause-value c = kinds_code

pub returns-clause-reference : goal.returns-clause-reference
returns-clause-reference c = kinds_reference
