-- The instructions that the code of statements has beside those of expressions and stores, as pieces, by the manual's names.
use Rattle.std.specs.Prelude.{ℕ, true, false}
use Rattle.spl_code.specs.hp_instr.declared.instruction.Instr.TheVariants as i
use Rattle.spl_code.specs.spl_branch.declared.pieces.Piece.{Piece}
use Rattle.spl_code.specs.spl_branch.declared.pieces.Piece.TheVariants.{Do, Branch}
use Rattle.spl_code.specs.Instructions.{operate}

-- an instruction with a number of words, or for the moves with a choice
abbrev pub control : ℕ → ℕ → Piece
control code number = Do (i.Control code number)

-- ---- operations on the top words

-- the condition code becomes that of the top word
abbrev pub TEST : Piece
TEST = operate 0o25

-- the top word is subtracted from the word below it, without sign
abbrev pub LSUB : Piece
LSUB = operate 0o62

-- deletes so many words
abbrev pub SUBS : ℕ → Piece
SUBS n = control 8 n

-- ---- moves of words and of bytes, from the data or, where the number is 1, from the code

abbrev pub MOVE : ℕ → Piece
MOVE from_code = control 9 from_code

abbrev pub MVB : ℕ → Piece
MVB from_code = control 10 from_code

-- bytes while they are of a class, by the manual's letters
abbrev pub MVBW : ℕ → Piece
MVBW letters = control 11 letters

-- scans bytes while they are the test byte, and until they are the test byte or the terminal one
abbrev pub SCW : Piece
SCW = control 12 0

abbrev pub SCU : Piece
SCU = control 13 0

-- ---- branches to a mark, by the address, step and limit on top

-- where the word at the address is within the limit; else the three are deleted
abbrev pub TBA : ℕ → Piece
TBA mark = Branch (i.Loop false false 0) mark

-- the same, once the step was added to the word
abbrev pub MTBA : ℕ → Piece
MTBA mark = Branch (i.Loop true false 0) mark
