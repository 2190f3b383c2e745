-- Along the tree.
use Rattle.spl_piece_kinds.proofs.StatementLaws.{kinds_statement, kinds_listed}
use Rattle.spl_piece_kinds.proofs.laws.statements_have_kinds.Goals as goal

pub returns-clause-one : goal.returns-clause-one
returns-clause-one c = kinds_statement

pub returns-clause-list : goal.returns-clause-list
returns-clause-list c = kinds_listed
