-- Pieces that begin well, and pieces that do not; starts that are found; by computing.
use Rattle.std.proofs.Common.{◌≡◌, true, false, [], ◌∷◌, Some, None, refl}
use Rattle.mpe_segmenter.specs.hp_instr.declared.instruction.Instr.TheVariants as i
use Rattle.mpe_segmenter.specs.spl_tree.declared.names_and_places.At.{At}
use Rattle.mpe_segmenter.specs.spl_branch.declared.pieces.Piece.TheVariants.{Do, Mark, Call, Begin, Literal}
use Rattle.spl_sites.specs.Beginnings.{begins_well, is_of_kind}
use Rattle.spl_sites.specs.Grounds.{started}

-- a statement of one word, and a mark behind it
one_statement : (at : At) → begins_well false (Begin at ∷ Do (i.Control 8 0) ∷ Mark 3 ∷ []) ≡ true
one_statement at = refl

-- a statement without words is none
no_empty_statement : (at other : At) → begins_well false (Begin at ∷ Begin other ∷ Do (i.Control 8 0) ∷ []) ≡ false
no_empty_statement at other = refl

-- nor does one begin at a mark, or at a word that is not run, or behind all pieces
no_mark : (at : At) → begins_well false (Begin at ∷ Mark 3 ∷ Do (i.Control 8 0) ∷ []) ≡ false
no_mark at = refl

no_literal : (at : At) → begins_well false (Begin at ∷ Literal 5 ∷ Do (i.Control 8 0) ∷ []) ≡ false
no_literal at = refl

none_behind : (at : At) → begins_well false (Do (i.Control 8 0) ∷ Begin at ∷ []) ≡ false
none_behind at = refl

-- BR is no piece by itself; an SCAL of another module's name is no call
no_branch : is_of_kind (Do (i.Branch false false 0)) ≡ false
no_branch = refl

no_far_subroutine : is_of_kind (Call (i.Control 3 0) true 0) ≡ false
no_far_subroutine = refl

-- the start at offset 2 of a module whose words begin at 10
there : (at other : At) → started 10 (record { at = at; offset = 0 } ∷ record { at = other; offset = 2 } ∷ []) 12 ≡ Some other
there at other = refl

no_start : (at other : At) → started 10 (record { at = at; offset = 0 } ∷ record { at = other; offset = 2 } ∷ []) 2 ≡ None
no_start at other = refl
