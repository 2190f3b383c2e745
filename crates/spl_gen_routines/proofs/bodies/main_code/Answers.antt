-- The mark of a main body stands for its way out, which nothing leads to.
use Rattle.spl_gen_body.proofs.spl_operations_proofs.PutLemmas.{ok_then}
use Rattle.std.proofs.Common.{map}
use Rattle.spl_tree.specs.Views as view
use Rattle.spl_tree.specs.StatementTrees as trees
use Rattle.spl_statement_scopes.specs.spl_body_scopes.spl_code_scopes.Scopes.{scope_of}
use Rattle.spl_gen_body.specs.spl_body_code.Frames.{granted}
use Rattle.spl_routine_code.specs.Bodies.{statements_part}
use Rattle.spl_routine_code.proofs.WholeBodies.{made_in_main, main_done}
use Rattle.spl_gen_routines.proofs.bodies.main_code.Goals as goal

pub body_statements-requires : goal.body_statements-requires
body_statements-requires c = record {
  made = made_in_main c.requires.free c.in_ok-enter_main.ensures;
  once = c.requires.once;
}

pub returns : goal.returns
returns c =
    ok_then c.leave_main.result
    (λ out. main_done (granted c.args.room.depth) c.args.entry
    (statements_part (scope_of c.args.scope.now) (trees.statements (map view.statement c.args.statements.now)) c.args.entry)
    c.args.code.now c.enter_main.new.code c.body_statements.new.code c.leave_main.new.code c.in_ok-enter_main.ensures c.in_ok-body_statements.ensures.code out)
    c.leave_main.ensures
