-- Pieces in which each beginning of a statement stands right before a word that is run, and which have instructions of their kinds.
use Rattle.std.specs.Prelude.{◌==◌, ◌&&◌, ◌||◌, Bool, true, false, not, List, [], ◌∷◌}
use Rattle.mpe_segmenter.specs.hp_instr.declared.instruction.Instr.{Instr}
use Rattle.mpe_segmenter.specs.hp_instr.declared.instruction.Instr.TheVariants as i
use Rattle.mpe_segmenter.specs.spl_branch.declared.pieces.Piece.{Piece}
use Rattle.mpe_segmenter.specs.spl_branch.declared.pieces.Piece.TheVariants.{Do, Branch, Call, Begin}
use Rattle.mpe_segmenter.specs.spl_branch.Pieces.{is_direct}
use Rattle.spl_stands.specs.Fitting.{is_plain}

-- a piece has words that are run
abbrev pub is_run : Piece → Bool
is_run (Do by) = true
is_run (Branch by l) = true
is_run (Call by wanted index) = true
is_run x = false

-- a statement is due behind a piece
abbrev pub is_beginning : Piece → Bool
is_beginning (Begin at) = true
is_beginning x = false

-- pieces begin well where a statement is due, or none is: behind each beginning stands a piece with words that are run
abbrev pub begins_well : Bool → List Piece → Bool
begins_well due [] = not due
begins_well due (x ∷ ps) = (is_run x || not due) && begins_well (is_beginning x) ps

-- a PCAL calls a want or an entry, an SCAL an entry of its own module
abbrev pub is_call_of : Instr → Bool → Bool
is_call_of (i.Control which n) wanted = which == 0 || (which == 3 && not wanted)
is_call_of by wanted = false

-- a piece has an instruction of its kind: one that is a piece by itself, a direct branch, a call
abbrev pub is_of_kind : Piece → Bool
is_of_kind (Do by) = is_plain by
is_of_kind (Branch by l) = is_direct by
is_of_kind (Call by wanted index) = is_call_of by wanted
is_of_kind x = true
