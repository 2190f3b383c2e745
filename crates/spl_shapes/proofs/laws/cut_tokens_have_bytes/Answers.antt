-- Piece by piece.
use Rattle.spl_shapes.proofs.Texts.{texts_bytes}
use Rattle.spl_shapes.proofs.laws.cut_tokens_have_bytes.Goals as goal

pub returns : goal.returns
returns c = texts_bytes
