-- A byte at which no >> begins leaves the next one where it is.
use Rattle.std.proofs.Common.{sym, ap, ◌∙◌, arith}
use Rattle.std.proofs.lemmas.List.{take_rest}
use Rattle.spl_pieces.specs.PieceViews.{closes}
use Rattle.spl_pieces.proofs.SizeLemmas.{close_more}
use Rattle.spl_pieces.proofs.pieces.close_size.Goals as goal

pub loop-i-preserved : goal.loop-i-preserved
loop-i-preserved c =
    close_more c.args.bytes.now c.loop-i.i (omega arith) (sym (ap closes (take_rest c.args.bytes.now c.loop-i.i)) ∙ sym c.if-begins_with_close.ensures.value)
    ∙ c.loop-i.invariant
