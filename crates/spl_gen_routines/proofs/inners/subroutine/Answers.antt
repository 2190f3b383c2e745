-- The first level has the parameters, and the results of both bodies.
use Rattle.std.proofs.Common.{map, ap, subst, ◌∙◌}
use Rattle.spl_tree.specs.Spells.{heading_tree}
use Rattle.spl_tree.specs.StatementTrees.{statements}
use Rattle.spl_tree.specs.Views as view
use Rattle.spl_sorts.specs.spl_meaning.Names.{formals_of}
use Rattle.spl_sorts.specs.spl_meaning.Pending.{formals_words}
use Rattle.spl_gen_body.proofs.spl_operations_proofs.PutLemmas.{ok_then}
use Rattle.spl_statement_scopes.specs.spl_body_scopes.spl_code_scopes.Scopes.{scope_of}
use Rattle.spl_statement_scopes.specs.spl_scopes.Scopes.{Results}
use Rattle.spl_statement_scopes.specs.spl_body_scopes.Levels.{Level, level_of, inner_level}
use Rattle.spl_statement_scopes.specs.spl_body_scopes.Results.{result_of, results_through}
use Rattle.spl_statement_scopes.specs.Levels.{with_results}
use Rattle.spl_routine_code.specs.Bodies.{statements_part}
use Rattle.spl_routine_code.specs.Generates.{Generates}
use Rattle.spl_routine_code.specs.Scoped.{subroutine_with}
use Rattle.spl_gen_routines.specs.Views.{around_of}
use Rattle.spl_gen_routines.proofs.SeenScopes.{inner_stands}
use Rattle.spl_gen_routines.proofs.inners.subroutine.Goals as goal

pub returns : goal.returns
returns c =
    let a = around_of c.args.around.now in
    let h = heading_tree c.args.heading.now in
    let scope = scope_of c.statement_scope-scope.result in
    let first =
    c.in_ok-first.ensures
    ∙ ap (λ (l : Level). with_results l a.own a.outer (results_through (result_of c.in_ok-result.result) a.result)) c.in_ok-level.ensures
    ∙ ap (λ (r : Results). with_results (inner_level h) a.own a.outer (results_through r a.result)) c.in_ok-result.ensures in
    ok_then c.subroutine_code.result
    (λ made. inner_stands a h (view.statement c.args.statement.now) c.args.room.depth c.args.entry c.args.code.now c.subroutine_code.new.code
    (level_of c.in_ok-first.first) scope first c.statement_scope-scope.ensures.inner c.statement_scope-scope.ensures.main_inner
    (subst (λ ss. Generates c.args.entry (subroutine_with c.args.room.depth (formals_words (formals_of h)) c.args.entry (statements_part scope (statements (map view.statement ss))))
    c.args.code.now c.subroutine_code.new.code) c.one-statements.ensures made))
    c.subroutine_code.ensures
