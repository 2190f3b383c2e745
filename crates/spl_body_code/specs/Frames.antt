-- Room for a body, and its local words, zero at first.
use Rattle.std.specs.Prelude.{ℕ, ◌/◌, ◌%◌, ◌==◌, ◌&&◌, nat_lt, min, if◌then◌else◌, List, [], ◌∷◌, ◌++◌, replicate}
use Rattle.spl_code.specs.hp_instr.declared.instruction.Instr.TheVariants as i
use Rattle.spl_code.specs.spl_branch.declared.pieces.Piece.{Piece}
use Rattle.spl_code.specs.spl_branch.declared.pieces.Piece.TheVariants.{Do}
use Rattle.spl_code.specs.Instructions.{immediate}
use Rattle.spl_code.specs.Constants.{constant}

-- ---- instructions, by the manual's names

-- traps where the stack has no room for so many words more; for 0 it takes their number from the top
abbrev pub ROOM : ℕ → Piece
ROOM words = Do (i.Control 6 words)

-- pushes so many zeros
abbrev pub ADDS : ℕ → Piece
ADDS words = Do (i.Control 7 words)

-- leaves a procedure and deletes so many words of its parameters
abbrev pub EXIT : ℕ → Piece
EXIT words = Do (i.Control 1 words)

-- leaves a subroutine and deletes so many words of its parameters
abbrev pub SXIT : ℕ → Piece
SXIT words = Do (i.Control 2 words)

-- enters split mode, and leaves it
abbrev pub SPLT : Piece
SPLT = immediate 0 1

abbrev pub JOIN : Piece
JOIN = immediate 0 2

-- ---- room and zeros

-- Room for so many words: by one instruction where its number holds them, else by their number on top. A number that is no word passes
-- each stack, and so does the greatest word.
abbrev pub granted : ℕ → List Piece
granted words = if nat_lt 0 words && nat_lt words 256 then ROOM words ∷ [] else constant (min words 65535) ++ ROOM 0 ∷ []

-- zeros, as many as one instruction pushes; there are none to push where the number is 0
abbrev pub last_zeros : ℕ → List Piece
last_zeros words = if words == 0 then [] else ADDS words ∷ []

-- so many zeros: 255 by one instruction while there are as many, and then the rest
abbrev pub zeroed : ℕ → List Piece
zeroed words = replicate (words / 255) (ADDS 255) ++ last_zeros (words % 255)
