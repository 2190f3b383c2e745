-- The result of a body stands below its parameters, and its list may hide it.
use Rattle.spl_body_scopes.proofs.ScopeLaws.{routine_results, inner_results, main_results, main_inner_results}
use Rattle.spl_body_scopes.proofs.laws.results_are_found.Goals as goal

pub returns-clause-routine : goal.returns-clause-routine
returns-clause-routine c = routine_results

pub returns-clause-inner : goal.returns-clause-inner
returns-clause-inner c = inner_results

pub returns-clause-main : goal.returns-clause-main
returns-clause-main c = main_results

pub returns-clause-main_inner : goal.returns-clause-main_inner
returns-clause-main_inner c = main_inner_results
