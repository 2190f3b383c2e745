-- The instructions that the code of expressions and stores has, as pieces, by the manual's names.
use Rattle.std.specs.Prelude.{ℕ, ◌+◌, ◌*◌, ◌%◌, Bool, true, false}
use Rattle.spl_branch.specs.hp_instr.declared.instruction.Instr.TheVariants as i
use Rattle.spl_branch.specs.hp_instr.declared.instruction.Mode.{Mode}
use Rattle.spl_branch.specs.hp_instr.Instructions.{op}
use Rattle.spl_branch.specs.declared.pieces.Piece.{Piece}
use Rattle.spl_branch.specs.declared.pieces.Piece.TheVariants.{Do, Branch}

-- a stack operation by its code
abbrev pub operate : ℕ → Piece
operate code = Do (i.Pair (op code) (op 0))

-- a shift of the top word by its code, and by a count of six bits
abbrev pub shift : ℕ → ℕ → Piece
shift code count = Do (i.Shifted code count)

-- an instruction with an immediate number
abbrev pub immediate : ℕ → ℕ → Piece
immediate code number = Do (i.Immediate code number)

-- ---- operations on the top words

-- pushes a zero
abbrev pub ZERO : Piece
ZERO = operate 0o06

-- pushes two zeros
abbrev pub DZRO : Piece
DZRO = operate 0o07

-- deletes the top word
abbrev pub DEL : Piece
DEL = operate 0o40

-- deletes the word below it
abbrev pub DELB : Piece
DELB = operate 0o01

-- deletes both
abbrev pub DDEL : Piece
DDEL = operate 0o02

-- copies the top word
abbrev pub DUP : Piece
DUP = operate 0o45

-- exchanges the two top words
abbrev pub XCH : Piece
XCH = operate 0o32

-- brings the third word to the top
abbrev pub CAB : Piece
CAB = operate 0o56

-- moves the top word to X
abbrev pub STAX : Piece
STAX = operate 0o43

-- ---- shifts and immediate numbers

-- logical shifts by a count
abbrev pub LSL : ℕ → Piece
LSL count = shift 2 count

abbrev pub LSR : ℕ → Piece
LSR count = shift 3 count

-- the arithmetic shift to the right
abbrev pub ASR : ℕ → Piece
ASR count = shift 1 count

-- pushes a number
abbrev pub LDI : ℕ → Piece
LDI n = immediate 1 n

-- pushes minus a number
abbrev pub LDNI : ℕ → Piece
LDNI n = immediate 8 n

-- X becomes minus a number
abbrev pub LDXN : ℕ → Piece
LDXN n = immediate 9 n

-- AND and OR of the top word with a number
abbrev pub ANDI : ℕ → Piece
ANDI n = immediate 13 n

abbrev pub ORI : ℕ → Piece
ORI n = immediate 14 n

-- extracts a field: its first bit in the left four bits of the number, its length in the right four, 0 for sixteen
abbrev pub EXF : ℕ → ℕ → Piece
EXF start size = immediate 11 (16 * start + size % 16)

-- deposits the top word in such a field of the word below it
abbrev pub DPF : ℕ → ℕ → Piece
DPF start size = immediate 12 (16 * start + size % 16)

-- ---- words in memory: indirect or not, indexed or not, at a mode

-- pushes the word
abbrev pub LOAD : Bool → Bool → Mode → Piece
LOAD indirect indexed mode = Do (i.Memory 4 true indexed indirect mode)

-- stores the top word
abbrev pub STOR : Bool → Bool → Mode → Piece
STOR indirect indexed mode = Do (i.Memory 5 true indexed indirect mode)

-- X becomes the word
abbrev pub LDX : Mode → Piece
LDX mode = Do (i.Memory 11 true false false mode)

-- pushes the address
abbrev pub LRA : Bool → Bool → Mode → Piece
LRA indirect indexed mode = Do (i.Memory 15 true indexed indirect mode)

-- pushes the word of the code that stands directly before
abbrev pub LOAD_BEFORE : Piece
LOAD_BEFORE = Do (i.LoadCode true 1)

-- ---- branches to a mark

-- always
abbrev pub BR : ℕ → Piece
BR mark = Branch (i.Branch false false 0) mark

-- where the top word, which is deleted, is even
abbrev pub BRE : ℕ → Piece
BRE mark = Branch (i.Short 0o16 false 0) mark

-- where the mask names the condition code
abbrev pub BCC : ℕ → ℕ → Piece
BCC mask mark = Branch (i.OnCode mask false 0) mark

-- compares bytes of the data with those of the code, where the number says so
abbrev pub CMPB : ℕ → Piece
CMPB from_code = Do (i.Control 14 from_code)
