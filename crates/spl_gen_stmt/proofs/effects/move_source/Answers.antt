-- What is moved stands behind the target's address.
use Rattle.std.proofs.Common.{ap}
use Rattle.spl_tree.specs.Views as view
use Rattle.spl_operations.proofs.PutLemmas.{ok_then}
use Rattle.spl_gen_expr.specs.spl_code_scopes.Scopes.{scope_of}
use Rattle.spl_gen_stmt.proofs.PartLemmas.{counted_done, text_done}
use Rattle.spl_gen_stmt.proofs.effects.move_source.Goals as goal

pub returns-in_ok-write-in-Counted : goal.returns-in_ok-write-in-Counted
returns-in_ok-write-in-Counted c =
    ok_then c.move_elements.result
    (λ last. counted_done (scope_of c.args.scope.now) c.args.used c.args.bytes _ (view.reference c.in-Counted.r) (view.expression c.in-Counted.count) c.args.waiting _ _
    (ap view.source_tree c.in-Counted.is) c.in_ok-behind_first-in-Counted.ensures c.in_ok-behind_second-in-Counted.ensures c.in_ok-reference-in-Counted.ensures
    c.in_ok-write-in-Counted.ensures.code last)
    c.move_elements.ensures

pub returns-in-Text : goal.returns-in-Text
returns-in-Text c =
    ok_then c.move_text.result
    (λ last. text_done (scope_of c.args.scope.now) c.args.used c.args.bytes _ _ c.in-Text.chars.bytes.items c.args.waiting (ap view.source_tree c.in-Text.is)
    c.deref.ensures.value last)
    c.move_text.ensures
