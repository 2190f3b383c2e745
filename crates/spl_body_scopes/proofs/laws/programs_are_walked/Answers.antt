-- A unit's data begin where those before it end.
use Rattle.spl_body_scopes.proofs.UnitLaws.{units_begin, units_enter, units_go_on}
use Rattle.spl_body_scopes.proofs.laws.programs_are_walked.Goals as goal

pub returns-clause-begin : goal.returns-clause-begin
returns-clause-begin c = units_begin

pub returns-clause-enter : goal.returns-clause-enter
returns-clause-enter c = units_enter

pub returns-clause-go_on : goal.returns-clause-go_on
returns-clause-go_on c = units_go_on
