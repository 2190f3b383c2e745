-- What the code of statements is made with, and the ways out of lists of statements: GO TO and RETURN.
use Rattle.std.specs.Prelude.{ℕ, ◌-◌, ◌/◌, ◌%◌, ◌<◌, ◌≡◌, nat_le, if◌then◌else◌, List, [], ◌∷◌, ◌++◌, Option, Some, None, replicate}
use Rattle.spl_code.specs.spl_branch.declared.pieces.Piece.{Piece}
use Rattle.spl_code.specs.spl_branch.declared.pieces.Piece.TheVariants.{Mark}
use Rattle.spl_code.specs.Instructions.{BR}
use Rattle.spl_code.specs.Parts.{Part, pieces, piece, nothing, ◌⨟◌}
use Rattle.spl_code.specs.Calls.{Scope}
use Rattle.spl_statement_code.specs.Instructions.{SUBS}

-- where a label leads: its mark, and how many words wait in the list that bears it
pub record Landing : Type 0 where
  pub mark : ℕ
  pub pending : ℕ

-- What the code of the statements of a body is made with: its scope, in which the name of a procedure or a subroutine that may be assigned
-- has the place of its result; its labels; and the mark of its way out.
pub record Context : Type 0 where
  pub scope : Scope
  pub landings : List ℕ → Option Landing
  pub leave : ℕ

-- the marks of a context were made, as the first so many
pub record IsMade (c : Context) (made : ℕ) : Type 0 where
  pub leave : c.leave < made
  pub landings : (x : List ℕ) (l : Landing) → c.landings x ≡ Some l → l.mark < made

-- deletes so many words: up to 255 by one instruction
abbrev pub dropped : ℕ → List Piece
dropped n = if nat_le n 255 then SUBS n ∷ [] else replicate (n / 255) (SUBS 255) ++ SUBS (n % 255) ∷ []

-- A jump to a mark, where fewer words wait: the others are deleted. Where none is, this is the word at which a statement begins.
abbrev pub jump : ℕ → ℕ → Part
jump surplus mark = pieces (dropped surplus) ⨟ piece (BR mark)

-- a jump to a label
abbrev pub gone_to : Option Landing → ℕ → Part
gone_to (Some l) k = jump (k - l.pending) l.mark
gone_to None k = nothing

-- the place of a label
abbrev pub landed : Option Landing → Part
landed (Some l) = piece (Mark l.mark)
landed None = nothing
