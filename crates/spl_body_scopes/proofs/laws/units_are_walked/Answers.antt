-- The next procedure is the first of those that are left.
use Rattle.spl_body_scopes.proofs.ScopeLaws.{begins, goes_on}
use Rattle.spl_body_scopes.proofs.laws.units_are_walked.Goals as goal

pub returns-clause-begin : goal.returns-clause-begin
returns-clause-begin c = begins

pub returns-clause-go_on : goal.returns-clause-go_on
returns-clause-go_on c = goes_on
