-- Each statement, step by step, is what its definition says.
use Rattle.std.proofs.Common.{suc, ◌+◌, map, refl, ap, ◌∙◌, add-one, arith}
use Rattle.spl_tree.specs.Views as view
use Rattle.spl_tree.specs.Views.{letters}
use Rattle.spl_tree.specs.StatementTrees as stat
use Rattle.spl_tree.specs.declared.statements.Stmt as stmt
use Rattle.spl_tree.specs.StatementTrees.{statements}
use Rattle.spl_branch.specs.declared.pieces.Piece.TheVariants.{Begin}
use Rattle.spl_statement_code.specs.spl_code.Parts.{piece}
use Rattle.spl_statement_code.specs.spl_code.Code as written
use Rattle.spl_statement_code.proofs.spl_code_proofs.AppendLaws.{then_appends}
use Rattle.spl_operations.proofs.PutLemmas.{ok_then}
use Rattle.spl_gen_expr.specs.spl_code_scopes.Scopes.{scope_of}
use Rattle.spl_statement_code.specs.Statements as shapes
use Rattle.spl_statement_code.specs.Labels.{marks_inside, marks_within}
use Rattle.spl_gen_stmt.specs.Contexts.{context_of}
use Rattle.spl_gen_stmt.proofs.GrownLemmas.{grown_start, grown_more, grown_setting, grown_two, grown_can, grown_still, first_made, second_made, first_open, second_open, first_set, first_set_here, can_first}
use Rattle.spl_gen_stmt.proofs.ViewLemmas as tree
use Rattle.spl_gen_stmt.proofs.StatementLemmas as done
use Rattle.spl_gen_stmt.proofs.statements.+statements.Goals as goal

pub arm-statement-requires : goal.arm-statement-requires
arm-statement-requires t c =
    let g = grown_more (grown_more (grown_start c.in_ok-next.ensures.made c.in_ok-operate.ensures) c.in_ok-relate.ensures) c.in_ok-operate-2.ensures in
    (let d = c.decreases in omega arith, (grown_still c.requires.made g, grown_can (marks_inside (context_of c.args.context.now) (view.statement c.args.body.now)) g c.requires.free))

pub arm-set_mark-requires : goal.arm-set_mark-requires
arm-set_mark-requires t c =
    let g = grown_more (grown_more (grown_start c.in_ok-next.ensures.made c.in_ok-operate.ensures) c.in_ok-relate.ensures) c.in_ok-operate-2.ensures in
    first_open c.in_ok-next.next (grown_more (grown_setting g c.in_ok-statement.ensures c.requires.free) c.in_ok-lead.ensures) c.in_ok-next.ensures.mark

pub arm-returns : goal.arm-returns
arm-returns t c =
    ok_then c.operate-3.result
    (λ last. done.arm_done (shapes.statement (context_of c.args.context.now) (view.statement c.args.body.now) c.args.waiting) c.args.end (marks_inside (context_of c.args.context.now) (view.statement c.args.body.now)) c.in_ok-next.next c.in_ok-next.ensures.mark c.in_ok-next.ensures.made
    c.in_ok-operate.ensures c.in_ok-relate.ensures c.in_ok-operate-2.ensures c.in_ok-statement.ensures c.requires.free c.in_ok-lead.ensures c.in_ok-set_mark.ensures
    c.in_ok-immediate.ensures last)
    c.operate-3.ensures

pub arms-arm-requires : goal.arms-arm-requires
arms-arm-requires t c = (
  let d = c.decreases in
      let h = done.member_lighter c.args.list.now c.loop-s.s-index c.s-item.result c.loop-s-test.true c.s-item.is in omega arith,
  (done.loop_made (context_of c.args.context.now) (λ ss. shapes.arms (context_of c.args.context.now) ss c.args.waiting c.args.end) _ _ _ _ c.loop-s.invariant c.requires.made, (done.loop_free (context_of c.args.context.now) (λ ss. shapes.arms (context_of c.args.context.now) ss c.args.waiting c.args.end) c.args.list.now c.loop-s.s-index c.s-item.result _ _ c.loop-s-test.true c.s-item.is c.loop-s.invariant, let more = c.loop-s.invariant.marks in let some = c.requires.end in omega (arith, more, some))),
)

pub arms-loop-s-preserved : goal.arms-loop-s-preserved
arms-loop-s-preserved t c =
    done.loop_next (context_of c.args.context.now) (λ ss. shapes.arms (context_of c.args.context.now) ss c.args.waiting c.args.end) (shapes.arm (shapes.statement (context_of c.args.context.now) (view.statement c.s-item.result) c.args.waiting) c.args.end) c.args.list.now c.loop-s.s-index c.s-item.result _ _ _ refl c.loop-s-test.true c.s-item.is c.loop-s.invariant c.in_ok-arm.ensures

pub arms-returns : goal.arms-returns
arms-returns t c =
    done.loop_last (context_of c.args.context.now) (λ ss. shapes.arms (context_of c.args.context.now) ss c.args.waiting c.args.end) c.args.list.now c.loop-s.s-index _ _ c.loop-s-test.false refl c.loop-s.invariant

pub listed-statement-requires : goal.listed-statement-requires
listed-statement-requires t c = (
  let d = c.decreases in
      let h = done.member_lighter c.args.list.now c.loop-s.s-index c.s-item.result c.loop-s-test.true c.s-item.is in omega arith,
  (done.loop_made (context_of c.args.context.now) (λ ss. shapes.listed (context_of c.args.context.now) ss c.args.waiting) _ _ _ _ c.loop-s.invariant c.requires.made, done.loop_free (context_of c.args.context.now) (λ ss. shapes.listed (context_of c.args.context.now) ss c.args.waiting) c.args.list.now c.loop-s.s-index c.s-item.result _ _ c.loop-s-test.true c.s-item.is c.loop-s.invariant),
)

pub listed-loop-s-preserved : goal.listed-loop-s-preserved
listed-loop-s-preserved t c =
    done.loop_next (context_of c.args.context.now) (λ ss. shapes.listed (context_of c.args.context.now) ss c.args.waiting) (shapes.statement (context_of c.args.context.now) (view.statement c.s-item.result) c.args.waiting) c.args.list.now c.loop-s.s-index c.s-item.result _ _ _ refl c.loop-s-test.true c.s-item.is c.loop-s.invariant c.in_ok-statement.ensures

pub listed-returns : goal.listed-returns
listed-returns t c =
    done.loop_last (context_of c.args.context.now) (λ ss. shapes.listed (context_of c.args.context.now) ss c.args.waiting) c.args.list.now c.loop-s.s-index _ _ c.loop-s-test.false refl c.loop-s.invariant

pub choose-statement-requires : goal.choose-statement-requires
choose-statement-requires t c =
    let g = grown_start c.in_ok-fail.ensures.made c.in_ok-tested.ensures in
    (let d = c.decreases in omega arith, (grown_still c.requires.made g, grown_can (marks_inside (context_of c.args.context.now) (view.statement c.args.then_part.now)) g c.requires.free))

pub choose-set_mark-requires : goal.choose-set_mark-requires
choose-set_mark-requires t c =
    first_open c.in_ok-fail.fail (grown_setting (grown_start c.in_ok-fail.ensures.made c.in_ok-tested.ensures) c.in_ok-statement.ensures c.requires.free) c.in_ok-fail.ensures.mark

pub choose-returns : goal.choose-returns
choose-returns t c =
    ok_then c.set_mark.result
    (λ last. done.chosen_done (λ fail. shapes.tested (scope_of c.args.context.now.scope.now) (view.test_tree c.args.test.now) fail c.args.waiting) (shapes.statement (context_of c.args.context.now) (view.statement c.args.then_part.now) c.args.waiting) (marks_inside (context_of c.args.context.now) (view.statement c.args.then_part.now)) c.in_ok-fail.fail c.in_ok-fail.ensures.mark
    c.in_ok-fail.ensures.made c.in_ok-tested.ensures c.in_ok-statement.ensures c.requires.free last)
    c.set_mark.ensures

pub choose_among-arms-requires : goal.choose_among-arms-requires
choose_among-arms-requires t c =
    let g = grown_start c.in_ok-end.ensures.made c.in_ok-write.ensures.code in
    (let d = c.decreases in omega arith, (grown_still c.requires.made g, (grown_can (marks_within (context_of c.args.context.now) (statements (map view.statement c.args.list.now))) g c.requires.free, first_made c.in_ok-end.end g c.in_ok-end.ensures.mark)))

pub choose_among-set_mark-requires : goal.choose_among-set_mark-requires
choose_among-set_mark-requires t c =
    first_open c.in_ok-end.end (grown_more (grown_setting (grown_start c.in_ok-end.ensures.made c.in_ok-write.ensures.code) c.in_ok-arms.ensures c.requires.free) c.in_ok-operate.ensures) c.in_ok-end.ensures.mark

pub choose_among-returns : goal.choose_among-returns
choose_among-returns t c =
    ok_then c.set_mark.result
    (λ last. done.among_done (written.code (scope_of c.args.context.now.scope.now) (view.expression c.args.of.now) written.as_value c.args.waiting)
    (λ end. shapes.arms (context_of c.args.context.now) (statements (map view.statement c.args.list.now)) c.args.waiting end) (marks_within (context_of c.args.context.now) (statements (map view.statement c.args.list.now))) c.in_ok-end.end c.in_ok-end.ensures.mark
    c.in_ok-end.ensures.made c.in_ok-write.ensures.code c.in_ok-arms.ensures c.requires.free c.in_ok-operate.ensures last)
    c.set_mark.ensures

pub choose_or-statement-requires : goal.choose_or-statement-requires
choose_or-statement-requires t c =
    let g = grown_start (grown_two c.in_ok-fail.ensures.made) c.in_ok-tested.ensures in
    (let d = c.decreases in omega arith, (grown_still c.requires.made g, grown_can (marks_inside (context_of c.args.context.now) (view.statement c.args.then_part.now)) g (can_first (marks_inside (context_of c.args.context.now) (view.statement c.args.then_part.now)) (marks_inside (context_of c.args.context.now) (view.statement c.args.else_part.now)) _ c.requires.free)))

pub choose_or-lead-requires : goal.choose_or-lead-requires
choose_or-lead-requires t c =
    second_made (c.in_ok-fail.fail + 1) (grown_setting (grown_start (grown_two c.in_ok-fail.ensures.made) c.in_ok-tested.ensures) c.in_ok-statement.ensures (can_first (marks_inside (context_of c.args.context.now) (view.statement c.args.then_part.now)) (marks_inside (context_of c.args.context.now) (view.statement c.args.else_part.now)) _ c.requires.free)) (add-one _ ∙ ap (λ n. suc n) c.in_ok-fail.ensures.first)

pub choose_or-set_mark-requires : goal.choose_or-set_mark-requires
choose_or-set_mark-requires t c =
    first_open c.in_ok-fail.fail (grown_more (grown_setting (grown_start (grown_two c.in_ok-fail.ensures.made) c.in_ok-tested.ensures) c.in_ok-statement.ensures (can_first (marks_inside (context_of c.args.context.now) (view.statement c.args.then_part.now)) (marks_inside (context_of c.args.context.now) (view.statement c.args.else_part.now)) _ c.requires.free)) c.in_ok-lead.ensures) c.in_ok-fail.ensures.first

pub choose_or-statement-requires-2 : goal.choose_or-statement-requires-2
choose_or-statement-requires-2 t c =
    let g = first_set (grown_more (grown_setting (grown_start (grown_two c.in_ok-fail.ensures.made) c.in_ok-tested.ensures) c.in_ok-statement.ensures (can_first (marks_inside (context_of c.args.context.now) (view.statement c.args.then_part.now)) (marks_inside (context_of c.args.context.now) (view.statement c.args.else_part.now)) _ c.requires.free)) c.in_ok-lead.ensures) c.in_ok-set_mark.ensures c.in_ok-fail.ensures.first in
    (let d = c.decreases in omega arith, (grown_still c.requires.made g, grown_can (marks_inside (context_of c.args.context.now) (view.statement c.args.else_part.now)) g c.requires.free))

pub choose_or-set_mark-requires-2 : goal.choose_or-set_mark-requires-2
choose_or-set_mark-requires-2 t c =
    second_open (c.in_ok-fail.fail + 1) (grown_setting (first_set (grown_more (grown_setting (grown_start (grown_two c.in_ok-fail.ensures.made) c.in_ok-tested.ensures) c.in_ok-statement.ensures (can_first (marks_inside (context_of c.args.context.now) (view.statement c.args.then_part.now)) (marks_inside (context_of c.args.context.now) (view.statement c.args.else_part.now)) _ c.requires.free)) c.in_ok-lead.ensures) c.in_ok-set_mark.ensures c.in_ok-fail.ensures.first) c.in_ok-statement-2.ensures c.requires.free) (add-one _ ∙ ap (λ n. suc n) c.in_ok-fail.ensures.first)

pub choose_or-returns : goal.choose_or-returns
choose_or-returns t c =
    ok_then c.set_mark-2.result
    (λ last. done.chosen_or_done (λ fail. shapes.tested (scope_of c.args.context.now.scope.now) (view.test_tree c.args.test.now) fail c.args.waiting) (shapes.statement (context_of c.args.context.now) (view.statement c.args.then_part.now) c.args.waiting) (shapes.statement (context_of c.args.context.now) (view.statement c.args.else_part.now) c.args.waiting)
    (marks_inside (context_of c.args.context.now) (view.statement c.args.then_part.now)) (marks_inside (context_of c.args.context.now) (view.statement c.args.else_part.now)) c.in_ok-fail.fail (c.in_ok-fail.fail + 1) c.in_ok-fail.ensures.first (add-one _ ∙ ap (λ n. suc n) c.in_ok-fail.ensures.first) c.in_ok-fail.ensures.made c.in_ok-tested.ensures
    c.in_ok-statement.ensures c.in_ok-lead.ensures c.in_ok-set_mark.ensures c.in_ok-statement-2.ensures c.requires.free last)
    c.set_mark-2.ensures

pub repeat_until-statement-requires : goal.repeat_until-statement-requires
repeat_until-statement-requires t c =
    let g = first_set (grown_start c.in_ok-again.ensures.made c.in_ok-idle.ensures) c.in_ok-set_mark.ensures c.in_ok-again.ensures.mark in
    (let d = c.decreases in omega arith, (grown_still c.requires.made g, grown_can (marks_inside (context_of c.args.context.now) (view.statement c.args.body.now)) g c.requires.free))

pub repeat_until-returns : goal.repeat_until-returns
repeat_until-returns t c =
    done.until_done (λ again. written.code (scope_of c.args.context.now.scope.now) (view.expression c.args.test.now) (written.as_test again) c.args.waiting) (shapes.statement (context_of c.args.context.now) (view.statement c.args.body.now) c.args.waiting) (marks_inside (context_of c.args.context.now) (view.statement c.args.body.now)) c.in_ok-again.again c.in_ok-again.ensures.mark c.in_ok-again.ensures.made
    c.in_ok-idle.ensures c.in_ok-set_mark.ensures c.in_ok-statement.ensures c.requires.free c.in_ok-write.ensures.code

pub repeat_while-statement-requires : goal.repeat_while-statement-requires
repeat_while-statement-requires t c =
    let g = grown_more (first_set_here (grown_two c.in_ok-next.ensures.made) c.in_ok-set_mark.ensures c.in_ok-next.ensures.first) c.in_ok-write.ensures.code in
    (let d = c.decreases in omega arith, (grown_still c.requires.made g, grown_can (marks_inside (context_of c.args.context.now) (view.statement c.args.body.now)) g c.requires.free))

pub repeat_while-set_mark-requires-2 : goal.repeat_while-set_mark-requires-2
repeat_while-set_mark-requires-2 t c =
    second_open (c.in_ok-next.next + 1) (grown_more (grown_setting (grown_more (first_set_here (grown_two c.in_ok-next.ensures.made) c.in_ok-set_mark.ensures c.in_ok-next.ensures.first) c.in_ok-write.ensures.code) c.in_ok-statement.ensures c.requires.free) c.in_ok-lead.ensures) (add-one _ ∙ ap (λ n. suc n) c.in_ok-next.ensures.first)

pub repeat_while-returns : goal.repeat_while-returns
repeat_while-returns t c =
    ok_then c.set_mark-2.result
    (λ last. done.while_done (λ end. written.code (scope_of c.args.context.now.scope.now) (view.expression c.args.test.now) (written.as_test end) c.args.waiting) (shapes.statement (context_of c.args.context.now) (view.statement c.args.body.now) c.args.waiting) (marks_inside (context_of c.args.context.now) (view.statement c.args.body.now)) c.in_ok-next.next (c.in_ok-next.next + 1)
    c.in_ok-next.ensures.first (add-one _ ∙ ap (λ n. suc n) c.in_ok-next.ensures.first) c.in_ok-next.ensures.made c.in_ok-set_mark.ensures c.in_ok-write.ensures.code c.in_ok-statement.ensures c.requires.free
    c.in_ok-lead.ensures last)
    c.set_mark-2.ensures

pub turn-statement-requires : goal.turn-statement-requires
turn-statement-requires t c =
    let g = first_set (grown_more (grown_start (grown_two c.in_ok-again.ensures.made) c.in_ok-count_to.ensures) c.in_ok-lead.ensures) c.in_ok-set_mark.ensures c.in_ok-again.ensures.first in
    (let d = c.decreases in omega arith, (grown_still c.requires.made g, grown_can (marks_inside (context_of c.args.context.now) (view.statement c.args.body.now)) g c.requires.free))

pub turn-set_mark-requires-2 : goal.turn-set_mark-requires-2
turn-set_mark-requires-2 t c =
    second_open (c.in_ok-again.again + 1) (grown_more (grown_setting (first_set (grown_more (grown_start (grown_two c.in_ok-again.ensures.made) c.in_ok-count_to.ensures) c.in_ok-lead.ensures) c.in_ok-set_mark.ensures c.in_ok-again.ensures.first) c.in_ok-statement.ensures c.requires.free) c.in_ok-count_to-2.ensures) (add-one _ ∙ ap (λ n. suc n) c.in_ok-again.ensures.first)

pub turn-returns : goal.turn-returns
turn-returns t c =
    ok_then c.set_mark-2.result
    (λ last. done.turns_done (shapes.statement (context_of c.args.context.now) (view.statement c.args.body.now) c.args.waiting) (marks_inside (context_of c.args.context.now) (view.statement c.args.body.now)) c.in_ok-again.again (c.in_ok-again.again + 1) c.in_ok-again.ensures.first (add-one _ ∙ ap (λ n. suc n) c.in_ok-again.ensures.first)
    c.in_ok-again.ensures.made c.in_ok-count_to.ensures c.in_ok-lead.ensures c.in_ok-set_mark.ensures c.in_ok-statement.ensures c.requires.free
    c.in_ok-count_to-2.ensures last)
    c.set_mark-2.ensures

pub statement-returns-in_ok-idle-in-Labelled : goal.statement-returns-in_ok-idle-in-Labelled
statement-returns-in_ok-idle-in-Labelled t c =
    ok_then c.statement.result
    (λ last. done.labelled_done (context_of c.args.context.now) c.args.waiting _ _ c.in-Labelled.name c.in-Labelled.at c.in-Labelled.body c.in-Labelled.is c.deref.ensures
    c.in_ok-land-in-Labelled.ensures c.in_ok-idle-in-Labelled.ensures last c.requires.free)
    c.statement.ensures

pub statement-returns-in_ok-idle-in-Block : goal.statement-returns-in_ok-idle-in-Block
statement-returns-in_ok-idle-in-Block t c =
    ok_then c.listed.result
    (λ last. done.block_done (context_of c.args.context.now) c.args.waiting _ c.in-Block.list c.deref-in-Block.result.now c.in-Block.is c.deref-in-Block.ensures.value
    c.in_ok-idle-in-Block.ensures last c.requires.free)
    c.listed.ensures

pub statement-returns-in_ok-plus-in-For : goal.statement-returns-in_ok-plus-in-For
statement-returns-in_ok-plus-in-For t c =
    ok_then c.turn.result
    (λ last. done.for_done (context_of c.args.context.now) c.args.waiting c.in_ok-plus-in-For.field-0 _ _ c.in-For.name c.in-For.first c.in-For.step c.in-For.last c.in-For.body c.in-For.at c.in-For.is c.deref-in-For.ensures
    c.in_ok-plus-in-For.ensures c.in_ok-begin-in-For.ensures c.in_ok-counting-in-For.ensures last c.requires.free)
    c.turn.ensures

pub statement-returns-in_ok-begin-in-Case : goal.statement-returns-in_ok-begin-in-Case
statement-returns-in_ok-begin-in-Case t c =
    ok_then c.choose_among.result
    (λ last. done.case_done (context_of c.args.context.now) c.args.waiting _ c.in-Case.of c.in-Case.arms c.in-Case.at c.deref-in-Case.result.now c.in-Case.is c.deref-in-Case.ensures.value
    c.in_ok-begin-in-Case.ensures last c.requires.free)
    c.choose_among.ensures

pub statement-returns-in_ok-begin-in-Goto : goal.statement-returns-in_ok-begin-in-Goto
statement-returns-in_ok-begin-in-Goto t c =
    ok_then c.go_to.result
    (λ last. done.begun_plain (context_of c.args.context.now) c.args.waiting _ (stat.Statement.go_to (letters c.in-Goto.name) c.in-Goto.at) (piece (Begin c.in-Goto.at)) _
    (ap view.statement c.in-Goto.is ∙ tree.goto_tree c.in-Goto.name c.in-Goto.at) refl refl c.in_ok-begin-in-Goto.ensures last c.requires.free)
    c.go_to.ensures

pub statement-returns-in_ok-begin-in-Return : goal.statement-returns-in_ok-begin-in-Return
statement-returns-in_ok-begin-in-Return t c =
    ok_then c.jump.result
    (λ last. done.begun_plain (context_of c.args.context.now) c.args.waiting _ (stat.Statement.return c.in-Return.at) (piece (Begin c.in-Return.at)) _
    (ap view.statement c.in-Return.is ∙ tree.return_tree c.in-Return.at) refl refl c.in_ok-begin-in-Return.ensures last c.requires.free)
    c.jump.ensures

pub statement-returns-in_ok-begin-in-Assign : goal.statement-returns-in_ok-begin-in-Assign
statement-returns-in_ok-begin-in-Assign t c =
    ok_then c.assign.result
    (λ last. done.begun_plain (context_of c.args.context.now) c.args.waiting _ (stat.Statement.assign (view.target_tree c.in-Assign.to) (view.expression c.in-Assign.value) c.in-Assign.at) (piece (Begin c.in-Assign.at)) _
    (ap view.statement c.in-Assign.is ∙ tree.assign_tree c.in-Assign.to c.in-Assign.value c.in-Assign.at) refl refl c.in_ok-begin-in-Assign.ensures last c.requires.free)
    c.assign.ensures

pub statement-returns-in_ok-begin-in-AssignEffect : goal.statement-returns-in_ok-begin-in-AssignEffect
statement-returns-in_ok-begin-in-AssignEffect t c =
    ok_then c.assign_effect.result
    (λ last. done.begun_plain (context_of c.args.context.now) c.args.waiting _ (stat.Statement.assign_effect (view.target_tree c.in-AssignEffect.to) (view.effect_tree c.in-AssignEffect.effect) c.in-AssignEffect.at) (piece (Begin c.in-AssignEffect.at)) _
    (ap view.statement c.in-AssignEffect.is ∙ tree.assign_effect_tree c.in-AssignEffect.to c.in-AssignEffect.effect c.in-AssignEffect.at) refl refl c.in_ok-begin-in-AssignEffect.ensures last c.requires.free)
    c.assign_effect.ensures

pub statement-returns-in_ok-begin-in-Do : goal.statement-returns-in_ok-begin-in-Do
statement-returns-in_ok-begin-in-Do t c =
    ok_then c.effect.result
    (λ last. done.begun_plain (context_of c.args.context.now) c.args.waiting _ (stat.Statement.do_effect (view.effect_tree c.in-Do.e) c.in-Do.at) (piece (Begin c.in-Do.at)) _
    (ap view.statement c.in-Do.is ∙ tree.do_tree c.in-Do.e c.in-Do.at) refl refl c.in_ok-begin-in-Do.ensures last c.requires.free)
    c.effect.ensures

pub statement-returns-in_ok-begin-in-Call : goal.statement-returns-in_ok-begin-in-Call
statement-returns-in_ok-begin-in-Call t c =
    ok_then c.call.result
    (λ last. done.call_done (context_of c.args.context.now) c.args.waiting _ c.in-Call.name c.in-Call.args c.in-Call.at c.deref-in-Call.result.now c.in-Call.is c.deref-in-Call.ensures.value
    c.in_ok-begin-in-Call.ensures last c.requires.free)
    c.call.ensures

pub statement-statement-requires : goal.statement-statement-requires
statement-statement-requires t c =
    let h = done.labelled_lighter _ _ c.in-Labelled.name c.in-Labelled.at c.in-Labelled.body c.in-Labelled.is c.deref.ensures in (
      let d = c.decreases in omega arith,
      (
        done.labelled_made (context_of c.args.context.now) c.requires.made c.in_ok-land-in-Labelled.ensures c.in_ok-idle-in-Labelled.ensures,
        done.labelled_free (context_of c.args.context.now) _ _ c.in-Labelled.name c.in-Labelled.at c.in-Labelled.body c.in-Labelled.is c.deref.ensures c.in_ok-land-in-Labelled.ensures c.in_ok-idle-in-Labelled.ensures c.requires.free,
      ),
    )

pub statement-listed-requires : goal.statement-listed-requires
statement-listed-requires t c =
    let h = done.block_lighter _ c.in-Block.list c.deref-in-Block.result.now c.in-Block.is c.deref-in-Block.ensures.value in (
      let d = c.decreases in omega arith,
      (
        done.begun_made c.requires.made c.in_ok-idle-in-Block.ensures,
        done.begun_free _ (done.block_free (context_of c.args.context.now) _ _ c.in-Block.list c.deref-in-Block.result.now c.in-Block.is c.deref-in-Block.ensures.value c.requires.free) c.in_ok-idle-in-Block.ensures,
      ),
    )

pub statement-choose-requires : goal.statement-choose-requires
statement-choose-requires t c =
    let h = done.if_lighter _ _ c.in-If.test c.in-If.yes c.in-If.no c.in-If.at c.in-If.is c.in-None.is c.deref-in-None.ensures in (
      let d = c.decreases in omega arith,
      (
        done.begun_made c.requires.made c.in_ok-begin-in-If.ensures,
        done.begun_free _ (done.if_free (context_of c.args.context.now) _ _ _ c.in-If.test c.in-If.yes c.in-If.no c.in-If.at c.in-If.is c.in-None.is c.deref-in-None.ensures c.requires.free) c.in_ok-begin-in-If.ensures,
      ),
    )

pub statement-returns-in-None : goal.statement-returns-in-None
statement-returns-in-None t c =
    ok_then c.choose.result
    (λ last. done.if_done_by (context_of c.args.context.now) c.args.waiting _ _ c.in-If.test c.in-If.yes c.in-If.no c.in-If.at c.in-If.is c.in-None.is c.deref-in-None.ensures c.in_ok-begin-in-If.ensures last c.requires.free)
    c.choose.ensures

pub statement-choose_or-requires : goal.statement-choose_or-requires
statement-choose_or-requires t c =
    let h = done.either_lighter _ _ _ c.in-If.test c.in-If.yes c.in-Some.no c.in-If.no c.in-If.at c.in-If.is c.in-Some.is c.deref-in-Some.ensures c.deref-in-Some-2.ensures in (
      let d = c.decreases in omega arith,
      (
        done.begun_made c.requires.made c.in_ok-begin-in-If.ensures,
        done.begun_free _ (done.either_free (context_of c.args.context.now) _ _ _ _ c.in-If.test c.in-If.yes c.in-Some.no c.in-If.at (c.in-If.is ∙ ap (λ n. stmt.If c.in-If.test c.in-If.yes n c.in-If.at) c.in-Some.is) c.deref-in-Some.ensures c.deref-in-Some-2.ensures c.requires.free) c.in_ok-begin-in-If.ensures,
      ),
    )

pub statement-returns-in-Some : goal.statement-returns-in-Some
statement-returns-in-Some t c =
    ok_then c.choose_or.result
    (λ last. done.either_done (context_of c.args.context.now) c.args.waiting _ _ _ c.in-If.test c.in-If.yes c.in-Some.no c.in-If.at (c.in-If.is ∙ ap (λ n. stmt.If c.in-If.test c.in-If.yes n c.in-If.at) c.in-Some.is) c.deref-in-Some.ensures c.deref-in-Some-2.ensures c.in_ok-begin-in-If.ensures last c.requires.free)
    c.choose_or.ensures

pub statement-repeat_while-requires : goal.statement-repeat_while-requires
statement-repeat_while-requires t c =
    let h = done.while_lighter _ _ c.in-While.test c.in-While.body c.in-While.at c.in-While.is c.deref-in-While.ensures in (
      let d = c.decreases in omega arith,
      (
        c.requires.made,
        done.while_free (context_of c.args.context.now) _ _ _ c.in-While.test c.in-While.body c.in-While.at c.in-While.is c.deref-in-While.ensures c.requires.free,
      ),
    )

pub statement-repeat_until-requires : goal.statement-repeat_until-requires
statement-repeat_until-requires t c =
    let h = done.until_lighter _ _ c.in-Until.body c.in-Until.test c.in-Until.at c.in-Until.is c.deref-in-Until.ensures in (
      let d = c.decreases in omega arith,
      (
        c.requires.made,
        done.until_free (context_of c.args.context.now) _ _ _ c.in-Until.body c.in-Until.test c.in-Until.at c.in-Until.is c.deref-in-Until.ensures c.requires.free,
      ),
    )

pub statement-turn-requires : goal.statement-turn-requires
statement-turn-requires t c =
    let h = done.for_lighter _ _ c.in-For.name c.in-For.first c.in-For.step c.in-For.last c.in-For.body c.in-For.at c.in-For.is c.deref-in-For.ensures in (
      let d = c.decreases in omega arith,
      (
        done.begun_made c.requires.made (then_appends c.in_ok-begin-in-For.ensures c.in_ok-counting-in-For.ensures),
        done.begun_free _ (done.for_free (context_of c.args.context.now) _ _ _ c.in-For.name c.in-For.first c.in-For.step c.in-For.last c.in-For.body c.in-For.at c.in-For.is c.deref-in-For.ensures c.requires.free) (then_appends c.in_ok-begin-in-For.ensures c.in_ok-counting-in-For.ensures),
      ),
    )

pub statement-choose_among-requires : goal.statement-choose_among-requires
statement-choose_among-requires t c =
    let h = done.case_lighter _ c.in-Case.of c.in-Case.arms c.in-Case.at c.deref-in-Case.result.now c.in-Case.is c.deref-in-Case.ensures.value in (
      let d = c.decreases in omega arith,
      (
        done.begun_made c.requires.made c.in_ok-begin-in-Case.ensures,
        done.begun_free _ (done.case_free (context_of c.args.context.now) _ _ c.in-Case.of c.in-Case.arms c.in-Case.at c.deref-in-Case.result.now c.in-Case.is c.deref-in-Case.ensures.value c.requires.free) c.in_ok-begin-in-Case.ensures,
      ),
    )
