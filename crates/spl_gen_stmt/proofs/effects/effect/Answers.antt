-- The first address, what is moved or scanned, and the answer.
use Rattle.std.proofs.Common.{ap}
use Rattle.spl_tree.specs.Views as view
use Rattle.spl_operations.proofs.PutLemmas.{ok_then}
use Rattle.spl_gen_expr.specs.spl_code_scopes.Scopes.{scope_of}
use Rattle.spl_gen_stmt.proofs.PartLemmas.{move_done, scan_done}
use Rattle.spl_gen_stmt.proofs.effects.effect.Goals as goal

pub returns-in_ok-move_source-in-Move : goal.returns-in_ok-move_source-in-Move
returns-in_ok-move_source-in-Move c =
    ok_then c.tell.result
    (λ last. move_done (scope_of c.args.scope.now) c.args.used c.leads_to_bytes.result _ (view.reference c.in-Move.to) (view.source_tree c.in-Move.from) c.args.waiting
    (ap view.effect_tree c.in-Move.is) c.leads_to_bytes.ensures c.in_ok-reference-in-Move.ensures c.in_ok-keep_first-in-Move.ensures
    c.in_ok-move_source-in-Move.ensures last)
    c.tell.ensures

pub returns-in_ok-scan-in-Scan : goal.returns-in_ok-scan-in-Scan
returns-in_ok-scan-in-Scan c =
    ok_then c.tell-in-Scan.result
    (λ last. scan_done (scope_of c.args.scope.now) c.args.used _ (view.reference c.in-Scan.from) c.in-Scan.until (view.expression c.in-Scan.test) c.args.waiting _
    (ap view.effect_tree c.in-Scan.is) c.in_ok-behind_first-in-Scan.ensures c.in_ok-reference-in-Scan.ensures c.in_ok-keep_first-in-Scan.ensures
    c.in_ok-write-in-Scan.ensures.code c.in_ok-scan-in-Scan.ensures last)
    c.tell-in-Scan.ensures
