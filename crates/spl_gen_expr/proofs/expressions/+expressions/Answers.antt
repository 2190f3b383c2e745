-- The parts of each expression, one behind the other, are what its definition says.
use Rattle.std.proofs.Common.{ap, sym, subst, refl, ◌∙◌, arith}
use Rattle.spl_tree.specs.Views as view
use Rattle.spl_tree.specs.Views.{letters}
use Rattle.spl_tree.specs.Trees.{trees}
use Rattle.spl_sorts.specs.Profiles.{formal_of, profile_of}
use Rattle.spl_sorts.specs.Sorts.{sort_of}
use Rattle.std.specs.Prelude.{map, option_map}
use Rattle.spl_operations.specs.spl_code.Appends.{Appends}
use Rattle.spl_operations.proofs.spl_code_proofs.AppendLaws.{then_appends}
use Rattle.spl_code_scopes.specs.Scopes.{scope_of}
use Rattle.spl_gen_expr.specs.Marks.{aim_view}
use Rattle.spl_gen_expr.specs.Phrases.{test_part}
use Rattle.spl_operations.proofs.PutLemmas.{ok_then}
use Rattle.spl_gen_expr.proofs.MarkLemmas.{pending, condition_appends}
use Rattle.spl_gen_expr.proofs.Joins.{condition_is, value_is}
use Rattle.spl_gen_expr.proofs.ViewLemmas.{binary_tree, bytes_tree, shift_tree, field_tree, transfer_tree}
use Rattle.spl_gen_expr.proofs.ExpressionLemmas as done
use Rattle.spl_gen_expr.proofs.expressions.+expressions.Goals as goal

pub both-returns-in_ok-write-in-Binary-2 : goal.both-returns-in_ok-write-in-Binary-2
both-returns-in_ok-write-in-Binary-2 t c =
    done.both_done (scope_of c.args.scope.now) c.in-Binary.op _ c.in-Binary.left.value _ c.in-Binary.right.value c.in-Binary.at _ c.args.waiting c.args.fail _ _ _
    (ap view.expression c.in-Binary.is ∙ binary_tree c.in-Binary.op c.in-Binary.left c.in-Binary.right c.in-Binary.at) c.deref.ensures c.deref-in-Binary.ensures
    c.in_ok-write-in-Binary.ensures.code c.in_ok-write-in-Binary-2.ensures.code

pub either-returns-in_ok-write-in-Binary-2 : goal.either-returns-in_ok-write-in-Binary-2
either-returns-in_ok-write-in-Binary-2 t c =
    ok_then c.set_mark-in-Binary.result
    (λ last. done.either_done (scope_of c.args.scope.now) c.in-Binary.op _ c.in-Binary.left.value _ c.in-Binary.right.value c.in-Binary.at _ c.args.waiting c.args.fail _ _ _ _ _ _ _ _ _
    (ap view.expression c.in-Binary.is ∙ binary_tree c.in-Binary.op c.in-Binary.left c.in-Binary.right c.in-Binary.at) c.deref.ensures c.deref-in-Binary.ensures c.in_ok-next-in-Binary.ensures.first refl c.in_ok-next-in-Binary.ensures.made
    c.in_ok-write-in-Binary.ensures.code c.in_ok-lead-in-Binary.ensures c.in_ok-set_mark-in-Binary.ensures c.in_ok-write-in-Binary-2.ensures.code last)
    c.set_mark-in-Binary.ensures

pub bytes_relation-returns-in_ok-compare_bytes-in-Bytes : goal.bytes_relation-returns-in_ok-compare_bytes-in-Bytes
bytes_relation-returns-in_ok-compare_bytes-in-Bytes t c =
    ok_then c.relate.result
    (λ last. done.bytes_done (scope_of c.args.scope.now) c.in-Bytes.op c.in-Bytes.left c.in-Bytes.right _ c.in-Bytes.count.value c.in-Bytes.at _ c.args.waiting _ _ c.args.fail _ _ _ _ _ _
    (ap view.expression c.in-Bytes.is ∙ bytes_tree c.in-Bytes.op c.in-Bytes.left c.in-Bytes.right c.in-Bytes.count c.in-Bytes.at) c.deref.ensures c.in_ok-behind_first-in-Bytes.ensures c.in_ok-behind_second-in-Bytes.ensures
    c.in_ok-reference-in-Bytes.ensures c.in_ok-reference-in-Bytes-2.ensures c.in_ok-write-in-Bytes.ensures.code c.in_ok-compare_bytes-in-Bytes.ensures last)
    c.relate.ensures

pub relation-returns-in_ok-compare-in-Binary : goal.relation-returns-in_ok-compare-in-Binary
relation-returns-in_ok-compare-in-Binary t c =
    ok_then c.relate.result
    (λ last. done.relation_done (scope_of c.args.scope.now) c.in-Binary.op _ c.in-Binary.left.value _ c.in-Binary.right.value c.in-Binary.at _ c.args.waiting _ _ _ c.args.fail _ _ _ _ _ _ _ _
    (ap view.expression c.in-Binary.is ∙ binary_tree c.in-Binary.op c.in-Binary.left c.in-Binary.right c.in-Binary.at) c.deref.ensures c.deref-in-Binary.ensures c.in_ok-first-in-Binary.ensures.kind c.in_ok-second-in-Binary.ensures.kind
    c.operand_width.ensures c.in_ok-waiting-in-Binary.ensures c.of.ensures c.relation_number.ensures
    c.in_ok-first-in-Binary.ensures.code c.in_ok-second-in-Binary.ensures.code c.in_ok-compare-in-Binary.ensures last)
    c.relate.ensures

pub text_relation-returns-in_ok-compare_text-in-Binary : goal.text_relation-returns-in_ok-compare_text-in-Binary
text_relation-returns-in_ok-compare_text-in-Binary t c =
    ok_then c.relate.result
    (λ last. done.text_done (scope_of c.args.scope.now) c.in-Binary.op _ c.in-Binary.left.value _ c.in-Binary.right.value c.in-Binary.at _ c.args.waiting _ c.args.fail _ _ _ _ _
    (ap view.expression c.in-Binary.is ∙ binary_tree c.in-Binary.op c.in-Binary.left c.in-Binary.right c.in-Binary.at) c.deref.ensures c.deref-in-Binary.ensures c.text_bytes.ensures c.relation_number.ensures
    c.in_ok-named_reference-in-Binary.ensures c.in_ok-compare_text-in-Binary.ensures last)
    c.relate.ensures

pub value-returns-in_ok-operate_on_two-in-Binary-clause-code : goal.value-returns-in_ok-operate_on_two-in-Binary-clause-code
value-returns-in_ok-operate_on_two-in-Binary-clause-code t c =
    done.binary_done (scope_of c.args.scope.now) c.in-Binary.op _ c.in-Binary.left.value _ c.in-Binary.right.value c.in-Binary.at _ c.args.waiting _ _ _ _ _ _ _ _ _
    (ap view.expression c.in-Binary.is ∙ binary_tree c.in-Binary.op c.in-Binary.left c.in-Binary.right c.in-Binary.at) c.deref-in-Binary.ensures c.deref-in-Binary-2.ensures c.in_ok-a-in-Binary.ensures.kind c.in_ok-b-in-Binary.ensures.kind
    c.operand_width.ensures c.in_ok-waiting-in-Binary.ensures c.of.ensures
    c.in_ok-a-in-Binary.ensures.code c.in_ok-b-in-Binary.ensures.code c.in_ok-operate_on_two-in-Binary.ensures

pub write-end-requires : goal.write-end-requires
write-end-requires t c =
    pending (test_part (scope_of c.args.scope.now) (view.expression c.args.e.now) c.args.waiting c.in_ok-opening.opening.fail) _ _ _ (aim_view c.args.aim) c.in_ok-opening.opening
    c.in_ok-opening.ensures c.in_ok-tested.ensures

pub write-returns-in_ok-end-clause-code : goal.write-returns-in_ok-end-clause-code
write-returns-in_ok-end-clause-code t c =
    let whole = condition_is (scope_of c.args.scope.now) (view.expression c.args.e.now) (aim_view c.args.aim) c.args.waiting (sym c.is_condition.ensures ∙ c.if-is_condition.true) in
    subst (λ p. Appends p c.args.code.now c.end.new.code) whole
    (condition_appends (aim_view c.args.aim) c.in_ok-opening.opening (test_part (scope_of c.args.scope.now) (view.expression c.args.e.now) c.args.waiting) _ _ _ _
    c.in_ok-opening.ensures c.in_ok-tested.ensures c.in_ok-end.ensures)

pub write-returns-in_ok-close-clause-code : goal.write-returns-in_ok-close-clause-code
write-returns-in_ok-close-clause-code t c =
    let whole = value_is (scope_of c.args.scope.now) (view.expression c.args.e.now) (aim_view c.args.aim) c.args.waiting (sym c.is_condition.ensures ∙ c.if-is_condition.false) in
    subst (λ p. Appends p c.args.code.now c.close.new.code) whole (then_appends c.in_ok-operand.ensures.code c.in_ok-close.ensures)

pub value-returns-in_ok-shift_value-in-Shift-clause-code : goal.value-returns-in_ok-shift_value-in-Shift-clause-code
value-returns-in_ok-shift_value-in-Shift-clause-code t c =
    done.shift_done (scope_of c.args.scope.now) c.in-Shift.kind _ c.in-Shift.of.value (view.constant c.in-Shift.by) c.in-Shift.at _ c.args.waiting _ _ _ _
    (ap view.expression c.in-Shift.is ∙ shift_tree c.in-Shift.kind c.in-Shift.of c.in-Shift.by c.in-Shift.at) c.deref-in-Shift.ensures c.small_constant.ensures c.in_ok-write-in-Shift.ensures.code c.in_ok-shift_value-in-Shift.ensures

pub value-returns-in_ok-extract-in-Field-clause-code : goal.value-returns-in_ok-extract-in-Field-clause-code
value-returns-in_ok-extract-in-Field-clause-code t c =
    done.field_done (scope_of c.args.scope.now) _ c.in-Field.of.value (view.constant c.in-Field.start) (view.constant c.in-Field.length) c.in-Field.at _ c.args.waiting _ _ _ _ _
    (ap view.expression c.in-Field.is ∙ field_tree c.in-Field.of c.in-Field.start c.in-Field.length c.in-Field.at) c.deref-in-Field.ensures c.small_constant-start.ensures c.small_constant-in-Field.ensures c.in_ok-write-in-Field.ensures.code c.in_ok-extract-in-Field.ensures

pub value-returns-in_ok-convert-in-Transfer-clause-code : goal.value-returns-in_ok-convert-in-Transfer-clause-code
value-returns-in_ok-convert-in-Transfer-clause-code t c =
    done.transfer_done (scope_of c.args.scope.now) c.in-Transfer.to _ c.in-Transfer.of.value c.in-Transfer.at _ c.args.waiting _ _ _ _
    (ap view.expression c.in-Transfer.is ∙ transfer_tree c.in-Transfer.to c.in-Transfer.of c.in-Transfer.at) c.deref-in-Transfer.ensures c.in_ok-value-in-Transfer.ensures.kind c.in_ok-value-in-Transfer.ensures.code c.in_ok-convert-in-Transfer.ensures

pub named-returns-in_ok-call_by_sort-in-Some-callable : goal.named-returns-in_ok-call_by_sort-in-Some-callable
named-returns-in_ok-call_by_sort-in-Some-callable t c =
    let some = ap (option_map (λ p. profile_of p.now)) c.in-Some-callable.is in
    ok_then c.take_result.result
    (λ last. done.name_is_called (scope_of c.args.scope.now) (letters c.args.name.now) (trees (map view.expression c.args.args.now)) c.args.waiting
    (option_map (λ s. sort_of s.now) c.find-sort.result) (profile_of c.in-Some-callable.profile.now) _ _ _ _
    c.find-sort.ensures (sym some ∙ c.callable.ensures) c.in_ok-begin_call-in-Some-callable.ensures c.in_ok-call_by_sort-in-Some-callable.ensures last)
    c.take_result.ensures

pub arguments-returns-in_default : goal.arguments-returns-in_default
arguments-returns-in_default t c =
    done.arguments_out (scope_of c.args.scope.now) _ (map formal_of c.loop-e.formals.now) (option_map (λ f. formal_of f.now) c.next_formal.result) c.loop-e.waiting _ _ _
    c.next_formal.ensures (ap (option_map (λ f. formal_of f.now)) c.in_default.is) c.loop-e.invariant

pub arguments-loop-e-preserved : goal.arguments-loop-e-preserved
arguments-loop-e-preserved t c =
    done.arguments_turn (scope_of c.args.scope.now) _ (map formal_of c.loop-e.formals.now) (option_map (λ f. formal_of f.now) c.next_formal.result)
    (formal_of c.in-Some.formal.now) c.loop-e.waiting c.in_ok-waiting.waiting c.formal_words.result c.args.args.now c.loop-e.e-index c.e-item.result
    (map formal_of c.other_formals-formals.result.now) _ _ _
    c.loop-e-test.true c.e-item.is c.next_formal.ensures (ap (option_map (λ f. formal_of f.now)) c.in-Some.is) c.other_formals-formals.ensures
    c.formal_words.ensures c.in_ok-waiting.ensures c.loop-e.invariant c.in_ok-argument.ensures

pub arguments-returns : goal.arguments-returns
arguments-returns t c =
    let over = c.loop-e-test.false in
    done.arguments_done (scope_of c.args.scope.now) _ (map formal_of c.loop-e.formals.now) c.loop-e.waiting c.args.args.now c.loop-e.e-index _ _ (omega (arith, over)) c.loop-e.invariant
