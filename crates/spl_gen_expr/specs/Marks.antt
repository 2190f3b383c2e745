-- Marks that are made and set between pieces: two at a time, of which the first or the second may be set.
use Rattle.std.specs.Prelude.{◌≡◌, ◌<◌, ℕ, suc, ◌++◌, ◌∷◌, [], Bool, true, false, length, replicate, slice_set, Option, Some, None}
use Rattle.spl_branch.specs.declared.buffer.Code.{Code}
use Rattle.spl_branch.specs.declared.pieces.Piece.TheVariants.{Mark}
use Rattle.spl_branch.specs.Codes.{SameFrame}
use Rattle.spl_operations.specs.spl_code.Parts.{Part, Written, wants_of, nothing, piece, ◌⨟◌}
use Rattle.spl_operations.specs.spl_code.Instructions.{LDNI, BR, ZERO}
use Rattle.spl_operations.specs.spl_code.Code.{Aim, as_value, as_test}
use Rattle.spl_gen_expr.specs.declared.marks.Opening.{Opening}
use Rattle.spl_gen_expr.specs.declared.marks.Aim as code
use Rattle.spl_gen_expr.specs.declared.marks.Aim.TheVariants as aim

-- what is wanted of an expression
abbrev pub aim_view : code.Aim → Aim
aim_view aim.Value = as_value
aim_view (aim.Test fail) = as_test fail

-- a part as it is written behind two new marks
abbrev pub inside : Part → Code → Written
inside p c = p (suc (suc (length c.marks.items))) (wants_of c.wants.items)

-- a part behind two new marks, of which each is set or not
pub record Within (first second : Bool) (part : Part) (c d : Code) : Type 0 where
  pub pieces : d.pieces.items ≡ c.pieces.items ++ (inside part c).pieces
  pub marks : d.marks.items ≡ c.marks.items ++ first ∷ second ∷ replicate (inside part c).marks true
  pub wants : wants_of d.wants.items ≡ (inside part c).wants
  pub same : SameFrame c d

-- a mark is set, at the end of the pieces
pub record Sets (mark : ℕ) (c d : Code) : Type 0 where
  pub pieces : d.pieces.items ≡ c.pieces.items ++ Mark mark ∷ []
  pub marks : d.marks.items ≡ slice_set c.marks.items mark true
  pub wants : wants_of d.wants.items ≡ wants_of c.wants.items
  pub same : SameFrame c d

-- a condition is begun: as a test nothing is done; as a value two marks are made
abbrev pub Opened : Aim → Opening → Code → Code → Type 0
Opened (as_test fail) o c d = (o.fail ≡ fail) × (o.end ≡ None) × (d ≡ c)
Opened as_value o c d = (o.fail ≡ length c.marks.items) × (o.end ≡ Some (suc (length c.marks.items))) × Within false false nothing c d

-- a value that waits for its two marks to be set, behind some part
abbrev pub Pending : Option ℕ → ℕ → Code → Type 0
Pending None fail d = Unit {0}
Pending (Some end) fail d =
    (c : Code) × (part : Part) × Within false false part c d × (fail ≡ length c.marks.items) × (end ≡ suc (length c.marks.items))

-- its two marks are set: all ones where it goes on, zero at the first mark
abbrev pub Ended : Option ℕ → ℕ → Code → Code → Type 0
Ended None fail d e = e ≡ d
Ended (Some end) fail d e =
    (c : Code) (part : Part) → Within false false part c d → fail ≡ length c.marks.items → end ≡ suc (length c.marks.items)
    → Within true true (part ⨟ piece (LDNI 1) ⨟ piece (BR end) ⨟ piece (Mark fail) ⨟ piece ZERO ⨟ piece (Mark end)) c e

-- the mark to which a test leads was made
abbrev pub Known : code.Aim → Code → Type 0
Known aim.Value c = Unit {0}
Known (aim.Test fail) c = fail < length c.marks.items
