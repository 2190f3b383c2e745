-- What is appended with the rest is all, and the rest grows less.
use Rattle.std.proofs.Common.{map, length}
use Rattle.spl_sorts.specs.spl_meaning.Elements.{as_words}
use Rattle.spl_branch.specs.declared.buffer.Code.{Code}
use Rattle.spl_branch.specs.declared.pieces.Piece.TheVariants.{Literal}
use Rattle.spl_operations.specs.spl_code.Parts.{pieces}
use Rattle.spl_operations.specs.spl_code.Appends.{Appends}
use Rattle.spl_gen_expr.proofs.texts.lay_text.Given as goal

abbrev pub decreases-loop-rest : goal.decreases-loop-rest
decreases-loop-rest l = length l.rest

abbrev pub invariant-loop-rest : goal.invariant-loop-rest
invariant-loop-rest l =
    (d : Code) → Appends (pieces (map Literal (as_words l.rest))) l.code d → Appends (pieces (map Literal (as_words l.fn.bytes))) l.fn.code d
