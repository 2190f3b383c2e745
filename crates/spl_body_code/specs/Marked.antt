-- What it means that the entry or the way out of a body was appended to a code.
use Rattle.std.specs.Prelude.{◌≡◌, ℕ, ◌++◌, ◌∷◌, true, List, slice_set}
use Rattle.spl_code.specs.spl_branch.declared.buffer.Code.{Code}
use Rattle.spl_code.specs.spl_branch.declared.pieces.Piece.{Piece}
use Rattle.spl_code.specs.spl_branch.declared.pieces.Piece.TheVariants.{Mark}
use Rattle.spl_code.specs.spl_branch.Codes.{SameFrame}
use Rattle.spl_code.specs.Parts.{wants_of}

-- Code `d` is code `c` with a mark, which was made before and is set at its end, and pieces behind it that make no mark and want no name:
-- no other mark has changed; the wants, and name, entries and main body stay.
pub record Marked (mark : ℕ) (ps : List Piece) (c d : Code) : Type 0 where
  pub pieces : d.pieces.items ≡ c.pieces.items ++ Mark mark ∷ ps
  pub marks : d.marks.items ≡ slice_set c.marks.items mark true
  pub wants : wants_of d.wants.items ≡ wants_of c.wants.items
  pub same : SameFrame c d
