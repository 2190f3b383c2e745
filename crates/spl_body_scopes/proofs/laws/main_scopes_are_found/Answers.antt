-- The names and places of the main body are those of its unit.
use Rattle.spl_body_scopes.proofs.ScopeLaws.{main_scope, main_inner_scope}
use Rattle.spl_body_scopes.proofs.laws.main_scopes_are_found.Goals as goal

pub returns-clause-main : goal.returns-clause-main
returns-clause-main c = main_scope

pub returns-clause-inner : goal.returns-clause-inner
returns-clause-inner c = main_inner_scope
