-- Along the tree.
use Rattle.spl_safe_statements.proofs.Statements.{safe_run, safe_all}
use Rattle.spl_safe_statements.proofs.laws.statements_are_safe.Goals as goal

pub returns-clause-statement : goal.returns-clause-statement
returns-clause-statement c = safe_run

pub returns-clause-list : goal.returns-clause-list
returns-clause-list c = safe_all
