-- The index, the answer and the store.
use Rattle.std.proofs.Common.{true}
use Rattle.spl_tree.specs.Views as view
use Rattle.spl_operations.proofs.PutLemmas.{ok_then}
use Rattle.spl_gen_expr.specs.spl_code_scopes.Scopes.{scope_of}
use Rattle.spl_statement_code.specs.Effects as effects
use Rattle.spl_gen_stmt.proofs.PartLemmas.{assigned_done}
use Rattle.spl_gen_stmt.proofs.parts.assign_effect.Goals as goal

pub returns : goal.returns
returns c =
    ok_then c.target_store.result
    (λ last. assigned_done (scope_of c.args.scope.now) (view.target_tree c.args.to.now)
    (λ j. effects.effect (scope_of c.args.scope.now) true (view.effect_tree c.args.effect.now) j) c.args.waiting _ c.in_ok-behind_target.ensures
    c.in_ok-target_index.ensures c.in_ok-effect.ensures last)
    c.target_store.ensures
