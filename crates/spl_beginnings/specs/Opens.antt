-- Parts of code by what stands at their front, for the statement that may be due there.
use Rattle.std.specs.Prelude.{◌≡◌, ℕ, Bool, true, false, List, [], ◌∷◌}
use Rattle.spl_statement_code.specs.spl_branch.declared.pieces.Piece.{Piece}
use Rattle.spl_statement_code.specs.spl_code.Parts.{Part, Wanted}
use Rattle.spl_sites.specs.Beginnings.{begins_well}

-- pieces that begin well where a statement is due, or none
abbrev pub opens_if_any : List Piece → Bool
opens_if_any [] = true
opens_if_any (x ∷ ps) = begins_well true (x ∷ ps)

-- whatever stands before a part: its pieces begin well where no statement is due
pub record BeginsWell (part : Part) : Type 0 where
  pub well : (l : ℕ) (ws : List Wanted) → begins_well false (part l ws).pieces ≡ true

-- and where one is due, so that it may stand right behind the beginning of a statement
pub record Opens (part : Part) : Type 0 where
  pub opens : (l : ℕ) (ws : List Wanted) → begins_well true (part l ws).pieces ≡ true

-- the same, or it has no pieces
pub record MayOpen (part : Part) : Type 0 where
  pub opens : (l : ℕ) (ws : List Wanted) → opens_if_any (part l ws).pieces ≡ true
