-- The entry's mark may be set, and then that of the way out.
use Rattle.spl_gen_body.proofs.spl_operations_proofs.PutLemmas.{ok_then}
use Rattle.std.proofs.Common.{map}
use Rattle.spl_tree.specs.Views as view
use Rattle.spl_tree.specs.StatementTrees as trees
use Rattle.spl_tree.specs.Spells.{heading_tree}
use Rattle.spl_sorts.specs.spl_meaning.Names.{formals_of}
use Rattle.spl_sorts.specs.spl_meaning.Pending.{formals_words}
use Rattle.spl_statement_scopes.specs.spl_body_scopes.spl_code_scopes.Scopes.{scope_of}
use Rattle.spl_gen_body.specs.Procedures.{frame_for}
use Rattle.spl_gen_body.specs.spl_body_code.Bodies.{procedure_entered, procedure_left}
use Rattle.spl_routine_code.specs.Bodies.{statements_part}
use Rattle.spl_routine_code.proofs.WholeBodies.{with_mark, free_to_enter, made_to_leave, free_to_leave, body_done}
use Rattle.spl_gen_routines.proofs.bodies.procedure_code.Goals as goal

pub enter_procedure-requires : goal.enter_procedure-requires
enter_procedure-requires c =
    let new = c.in_ok-leave.ensures in
    free_to_enter c.args.entry c.requires.free (with_mark new.pieces new.marks new.wants new.same)

pub body_statements-requires : goal.body_statements-requires
body_statements-requires c =
    let new = c.in_ok-leave.ensures in
    record {
      made = made_to_leave c.requires.free new.mark (with_mark new.pieces new.marks new.wants new.same) c.in_ok-enter_procedure.ensures;
      once = c.requires.once;
    }

pub leave_procedure-requires : goal.leave_procedure-requires
leave_procedure-requires c =
    let new = c.in_ok-leave.ensures in
    free_to_leave {p = statements_part (scope_of c.args.scope.now) (trees.statements (map view.statement c.args.statements.now)) c.in_ok-leave.leave}
    c.requires.free new.mark (with_mark new.pieces new.marks new.wants new.same) c.in_ok-enter_procedure.ensures c.in_ok-body_statements.ensures.code

pub returns : goal.returns
returns c =
    let new = c.in_ok-leave.ensures in
    let words = formals_words (formals_of (heading_tree c.args.of.now.heading.now)) in
    ok_then c.leave_procedure.result
    (λ out. body_done (procedure_entered (frame_for c.args.of.now)) (procedure_left c.args.of.now.heading.now.split words) c.args.entry c.in_ok-leave.leave
    (statements_part (scope_of c.args.scope.now) (trees.statements (map view.statement c.args.statements.now)))
    c.args.code.now c.fresh.new.self c.enter_procedure.new.code c.body_statements.new.code c.leave_procedure.new.code
    c.requires.free new.mark (with_mark new.pieces new.marks new.wants new.same) c.in_ok-enter_procedure.ensures c.in_ok-body_statements.ensures.code out)
    c.leave_procedure.ensures
