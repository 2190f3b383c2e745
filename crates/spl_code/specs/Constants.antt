-- Constants and strings in the code.
use Rattle.std.specs.Prelude.{ℕ, ◌-◌, ◌/◌, ◌%◌, nat_lt, if◌then◌else◌, ℤ, List, [], ◌∷◌, ◌++◌, map, Option, Some, None}
use Rattle.spl_meaning.specs.hp_word.Words.{word_of}
use Rattle.spl_meaning.specs.hp_word.Bytes.{high_word, low_word}
use Rattle.spl_meaning.specs.Elements.{as_words}
use Rattle.spl_branch.specs.declared.pieces.Piece.{Piece}
use Rattle.spl_branch.specs.declared.pieces.Piece.TheVariants.{Literal, Place, Mark}
use Rattle.spl_code.specs.Instructions.{LDI, LDNI, LSL, ORI, BR, LOAD_BEFORE}
use Rattle.spl_code.specs.Parts.{Part, pieces, piece, nothing, ◌⨟◌, with_fresh}

-- pushes a word: one of the first 256 and one of the last 255 by one instruction, each other by its left byte, shifted, and its right one
abbrev pub constant : ℕ → List Piece
constant c =
    if nat_lt c 256 then LDI c ∷ []
    else if nat_lt 65280 c then LDNI (65536 - c) ∷ []
    else LDI (c / 256) ∷ LSL 8 ∷ ORI (c % 256) ∷ []

-- a double: its high word first
abbrev pub double_constant : ℕ → List Piece
double_constant d = constant (high_word d) ++ constant (low_word d)

-- a word that there may be
abbrev pub text_constant : Option ℕ → Part
text_constant (Some w) = pieces (constant (w % 65536))
text_constant None = nothing

-- a whole number that there may be, as a word
abbrev pub number_constant : Option ℤ → Part
number_constant (Some v) = pieces (constant (word_of v))
number_constant None = nothing

-- A string lies in the code, two bytes to a word, with the offset of its first word behind it. That offset is pushed, in words.
abbrev pub text_offset : List ℕ → Part
text_offset bytes =
    with_fresh (λ over. with_fresh (λ start.
    piece (BR over) ⨟ piece (Mark start) ⨟ pieces (map Literal (as_words bytes)) ⨟ piece (Place start) ⨟ piece (Mark over) ⨟ piece LOAD_BEFORE))
