-- Along the tree.
use Rattle.spl_beginnings.proofs.StatementLaws.{well_statement, well_listed}
use Rattle.spl_beginnings.proofs.laws.statements_begin_well.Goals as goal

pub returns-clause-one : goal.returns-clause-one
returns-clause-one c = well_statement

pub returns-clause-list : goal.returns-clause-list
returns-clause-list c = well_listed
