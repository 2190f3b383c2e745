-- Lines with places for draws, and what they come to: the draws are made in the order in which their places stand.
use Rattle.std.specs.Prelude.{ℕ, List, [], ◌∷◌, ◌++◌}
use Rattle.std.specs.Fmt.{decimal}
use Rattle.job_gen.specs.Draws.{next, drawn}

-- a piece of a line: bytes as they stand, or the place of a draw
pub data Piece : Type 0 where
  bytes : List ℕ → Piece
  draw : Piece

abbrev pub Line : Type 0
Line = List Piece

-- the bytes of a line whose draws come behind x; a draw is told in decimal
abbrev pub filled : ℕ → Line → List ℕ
filled x [] = []
filled x (bytes b ∷ ps) = b ++ filled x ps
filled x (draw ∷ ps) = decimal (drawn x) ++ filled (next x) ps

-- the number behind which the draws go on
abbrev pub behind : ℕ → Line → ℕ
behind x [] = x
behind x (bytes b ∷ ps) = behind x ps
behind x (draw ∷ ps) = behind (next x) ps

-- a line with the line feed that ends it
abbrev pub ended : Line → Line
ended l = l ++ bytes (10 ∷ []) ∷ []

-- a text of lines
abbrev pub text_of : ℕ → List Line → List ℕ
text_of x [] = []
text_of x (l ∷ ls) = filled x (ended l) ++ text_of (behind x l) ls

-- and the number behind which draws go on there
abbrev pub behind_all : ℕ → List Line → ℕ
behind_all x [] = x
behind_all x (l ∷ ls) = behind_all (behind x l) ls
