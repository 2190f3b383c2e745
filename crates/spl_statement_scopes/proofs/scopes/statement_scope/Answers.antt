-- What three levels show is the scope of the statements of the body whose they are.
use Rattle.std.proofs.Common.{sym, subst}
use Rattle.spl_module_code.specs.spl_code.Calls.{Scope}
use Rattle.spl_body_scopes.specs.Levels.{level_of}
use Rattle.spl_body_scopes.specs.Found.{calls_in}
use Rattle.spl_statement_scopes.specs.Scopes.{StatesRoutine, StatesInner, StatesMain, StatesMainInner}
use Rattle.spl_statement_scopes.proofs.ScopeLaws.{states_routine, states_inner, states_main, states_main_inner}
use Rattle.spl_statement_scopes.proofs.scopes.statement_scope.Goals as goal

pub returns-clause-routine : goal.returns-clause-routine
returns-clause-routine c =
    let first = level_of c.args.first.now in
    let own = level_of c.args.own.now in
    let outer = level_of c.args.outer.now in
    let calls = calls_in c.args.entries in
    subst (λ (s : Scope). StatesRoutine first own outer calls s) (sym c.scope.ensures.through) (states_routine first own outer calls)

pub returns-clause-inner : goal.returns-clause-inner
returns-clause-inner c =
    let first = level_of c.args.first.now in
    let own = level_of c.args.own.now in
    let outer = level_of c.args.outer.now in
    let calls = calls_in c.args.entries in
    subst (λ (s : Scope). StatesInner first own outer calls s) (sym c.scope.ensures.through) (states_inner first own outer calls)

pub returns-clause-main : goal.returns-clause-main
returns-clause-main c =
    let first = level_of c.args.first.now in
    let own = level_of c.args.own.now in
    let outer = level_of c.args.outer.now in
    let calls = calls_in c.args.entries in
    subst (λ (s : Scope). StatesMain first own outer calls s) (sym c.scope.ensures.through) (states_main first own outer calls)

pub returns-clause-main_inner : goal.returns-clause-main_inner
returns-clause-main_inner c =
    let first = level_of c.args.first.now in
    let own = level_of c.args.own.now in
    let outer = level_of c.args.outer.now in
    let calls = calls_in c.args.entries in
    subst (λ (s : Scope). StatesMainInner first own outer calls s) (sym c.scope.ensures.through) (states_main_inner first own outer calls)
