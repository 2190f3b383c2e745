-- The name is wanted, and then called.
use Rattle.spl_operations.proofs.PutLemmas.{ok_both}
use Rattle.spl_gen_expr.proofs.WantLemmas.{wanted_appends}
use Rattle.spl_gen_body.proofs.bodies.call_gate.Goals as goal

pub returns : goal.returns
returns c =
    let wanted = c.in_ok-index.ensures in
    ok_both c.put.result
    (λ pieces marks. wanted_appends c.new.result _ _ c.in_ok-index.index _ _ _ c.new.ensures wanted.index wanted.wants wanted.pieces wanted.marks wanted.same
    pieces marks c.put.ensures.wants c.put.ensures.same)
    c.put.ensures.pieces c.put.ensures.marks
