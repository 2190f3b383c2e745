-- The words of pieces that the segmenter completes, and the statements that begin there.
use Rattle.std.specs.Prelude.{ℕ, if◌then◌else◌, List, [], ◌∷◌, ◌++◌}
use Rattle.spl_branch.specs.declared.pieces.Piece.{Piece}
use Rattle.spl_branch.specs.declared.pieces.Piece.TheVariants.{Place, Call, Begin}
use Rattle.spl_branch.specs.declared.modules.FixKind.TheVariants as kind
use Rattle.spl_branch.specs.declared.modules.Fix.{Fix}
use Rattle.spl_branch.specs.declared.modules.Start.{Start}
use Rattle.spl_branch.specs.declared.spots.Spot.{Spot}
use Rattle.spl_branch.specs.Stands.{ahead, after}

-- the fix of a piece: of a call, and of a word that holds an offset
abbrev pub piece_fixes : (ℕ → ℕ) → Spot → Piece → List Fix
piece_fixes marks p (Place l) = record { offset = p.offset; kind = kind.Place; index = marks l } ∷ []
piece_fixes marks p (Call by wanted index) = record { offset = p.offset; kind = (if wanted then kind.Want else kind.Define); index = index } ∷ []
piece_fixes marks p x = []

-- the fixes of pieces that begin at p, in order
abbrev pub fixes_of : (ℕ → ℕ) → Spot → List Piece → List Fix
fixes_of marks p [] = []
fixes_of marks p (x ∷ ps) = piece_fixes marks p x ++ fixes_of marks (after marks p x (ahead ps)) ps

-- the start that a piece is
abbrev pub piece_starts : Spot → Piece → List Start
piece_starts p (Begin at) = record { at = at; offset = p.offset } ∷ []
piece_starts p x = []

-- the starts of pieces that begin at p, in order
abbrev pub starts_of : (ℕ → ℕ) → Spot → List Piece → List Start
starts_of marks p [] = []
starts_of marks p (x ∷ ps) = piece_starts p x ++ starts_of marks (after marks p x (ahead ps)) ps
