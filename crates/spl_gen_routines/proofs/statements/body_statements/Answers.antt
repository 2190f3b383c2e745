-- The labels' marks, and behind them the statements.
use Rattle.std.proofs.Common.{map}
use Rattle.spl_tree.specs.Views as view
use Rattle.spl_tree.specs.StatementTrees as trees
use Rattle.spl_gen_body.proofs.spl_operations_proofs.PutLemmas.{ok_then}
use Rattle.spl_statement_scopes.specs.spl_body_scopes.spl_code_scopes.Scopes.{scope_of}
use Rattle.spl_gen_stmt.specs.Contexts.{context_by}
use Rattle.spl_gen_stmt.specs.spl_landing_maps.Landings.{landings_of}
use Rattle.spl_landings.specs.spl_module_code.LabelsOfBodies.{labels_among}
use Rattle.spl_routine_code.proofs.BodyMarks.{marks_made, marks_free, body_done, words_more}
use Rattle.spl_gen_routines.proofs.statements.body_statements.Goals as goal

pub gen_statements-requires : goal.gen_statements-requires
gen_statements-requires c = record {
  made = marks_made (context_by c.args.scope.now c.in_ok-landings.landings c.args.leave) c.args.code.now.marks.items c.landings.new.code.marks.items
      (labels_among (trees.statements (map view.statement c.args.statements.now)) 0) c.in_ok-landings.ensures.map c.requires.made c.in_ok-landings.ensures.marks;
  free = marks_free (context_by c.args.scope.now c.in_ok-landings.landings c.args.leave) c.args.code.now.marks.items c.landings.new.code.marks.items
      (trees.statements (map view.statement c.args.statements.now)) c.in_ok-landings.ensures.map c.requires.once c.in_ok-landings.ensures.marks;
}

pub returns-clause-code : goal.returns-clause-code
returns-clause-code c =
    ok_then c.gen_statements.result
    (λ last. body_done (scope_of c.args.scope.now) (landings_of c.in_ok-landings.landings) c.args.leave (trees.statements (map view.statement c.args.statements.now))
    c.args.code.now c.landings.new.code c.gen_statements.new.code c.in_ok-landings.ensures.map c.requires.once c.in_ok-landings.ensures.marks
    c.in_ok-landings.ensures.pieces c.in_ok-landings.ensures.wants c.in_ok-landings.ensures.same last)
    c.gen_statements.ensures.code

pub returns-clause-words : goal.returns-clause-words
returns-clause-words c =
    ok_then c.gen_statements.result
    (λ few. words_more (trees.statements (map view.statement c.args.statements.now)) c.args.code.now c.landings.new.code c.gen_statements.new.code
    c.in_ok-landings.ensures.pieces few)
    c.gen_statements.ensures.words
