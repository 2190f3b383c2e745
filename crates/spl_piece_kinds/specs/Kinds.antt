-- Parts of code whose pieces have instructions of their kinds.
use Rattle.std.specs.Prelude.{◌≡◌, ℕ, Bool, true, List}
use Rattle.std.specs.List.{list_all}
use Rattle.spl_module_code.specs.spl_branch.declared.pieces.Piece.{Piece}
use Rattle.spl_module_code.specs.spl_code.Parts.{Part, Wanted}
use Rattle.spl_sites.specs.Beginnings.{is_of_kind}

-- each of some pieces has an instruction of its kind
abbrev pub have_kinds : List Piece → Bool
have_kinds ps = list_all is_of_kind ps

-- whatever stands before a part, so have its pieces
pub record HasKinds (part : Part) : Type 0 where
  pub kinds : (l : ℕ) (ws : List Wanted) → have_kinds (part l ws).pieces ≡ true
