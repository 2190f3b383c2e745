-- The first level of a main body has no names and no results.
use Rattle.std.proofs.Common.{None, ap, subst, ◌∙◌}
use Rattle.spl_gen_body.proofs.spl_operations_proofs.PutLemmas.{ok_then}
use Rattle.spl_statement_scopes.specs.spl_body_scopes.spl_code_scopes.Scopes.{scope_of}
use Rattle.spl_statement_scopes.specs.spl_body_scopes.Levels.{Level, level_of}
use Rattle.spl_statement_scopes.specs.spl_body_scopes.Results.{result_of, results_through}
use Rattle.spl_statement_scopes.specs.spl_body_scopes.Found.{calls_in}
use Rattle.spl_statement_scopes.specs.Levels.{with_results}
use Rattle.spl_statement_scopes.specs.Scopes.{StatesMain}
use Rattle.spl_gen_routines.proofs.routines.main_body.Goals as goal

pub returns : goal.returns
returns c =
    let outer = level_of c.args.outer.now in
    let scope = scope_of c.statement_scope-scope.result in
    let first = c.in_ok-first.ensures ∙ ap (λ (l : Level). with_results l outer outer (results_through (result_of None) (result_of None))) c.no_names.ensures in
    ok_then c.main_code.result
    (λ made. record {
      scope = scope;
      states = subst (λ (l : Level). StatesMain l outer outer (calls_in c.args.entries) scope) first c.statement_scope-scope.ensures.main;
      stands = made;
    })
    c.main_code.ensures
