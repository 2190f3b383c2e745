-- The names and places of a body are those of its levels.
use Rattle.spl_body_scopes.proofs.ScopeLaws.{routine_scope, inner_scope}
use Rattle.spl_body_scopes.proofs.laws.routine_scopes_are_found.Goals as goal

pub returns-clause-routine : goal.returns-clause-routine
returns-clause-routine c = routine_scope

pub returns-clause-inner : goal.returns-clause-inner
returns-clause-inner c = inner_scope
