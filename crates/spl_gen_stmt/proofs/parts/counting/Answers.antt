-- The first value is stored, and address, step and limit stay.
use Rattle.spl_tree.specs.Views as view
use Rattle.spl_tree.specs.Views.{letters}
use Rattle.spl_tree.specs.Trees.{trees}
use Rattle.spl_gen_expr.specs.spl_code_scopes.Scopes.{scope_of}
use Rattle.spl_gen_stmt.proofs.PartLemmas.{counting_done}
use Rattle.spl_gen_stmt.proofs.parts.counting.Goals as goal

pub returns : goal.returns
returns c =
    counting_done (scope_of c.args.scope.now) (letters c.args.name.now) (view.expression c.args.first.now) (trees (view.optional c.args.step.now))
    (view.expression c.args.last.now) c.args.waiting _ _ c.in_ok-plus.ensures c.in_ok-plus-2.ensures c.in_ok-write.ensures.code c.in_ok-counter.ensures
    c.in_ok-step_value.ensures c.in_ok-write-2.ensures.code
