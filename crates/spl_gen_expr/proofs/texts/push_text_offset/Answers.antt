-- The string stands behind a branch over it, and its offset behind it.
use Rattle.spl_operations.proofs.PutLemmas.{ok_then}
use Rattle.spl_gen_expr.proofs.TextLemmas.{text_appends}
use Rattle.spl_gen_expr.proofs.texts.push_text_offset.Goals as goal
use Rattle.std.proofs.Common.{ap, suc, ◌+◌, ◌∙◌, add-one}

pub returns : goal.returns
returns c =
    let over = c.in_ok-over.ensures.first in
    ok_then c.load_before.result
    (λ last. text_appends c.args.bytes.now c.in_ok-over.over (c.in_ok-over.over + 1) _ _ _ _ _ _ _ _ over (add-one _ ∙ ap (λ n. suc n) over) c.in_ok-over.ensures.made
    c.in_ok-lead.ensures c.in_ok-set_mark.ensures c.in_ok-lay_text.ensures c.in_ok-place.ensures c.in_ok-set_mark-2.ensures last)
    c.load_before.ensures
