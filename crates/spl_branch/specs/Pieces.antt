-- Pieces: which instructions they may have, the marks that they name and set, and how many words they take at most.
use Rattle.std.specs.Prelude.{ℕ, ◌≡◌, ◌==◌, ◌+◌, ◌&&◌, ◌||◌, nat_lt, Bool, true, false, not, if◌then◌else◌, List, [], ◌∷◌, Option, Some, None, length, slice_index_or, slice_set}
use Rattle.hp_instr.specs.declared.instruction.Instr.{Instr}
use Rattle.hp_instr.specs.declared.instruction.Instr.TheVariants as i
use Rattle.hp_instr.specs.Given.{has_word}
use Rattle.spl_branch.specs.declared.pieces.Piece.{Piece}
use Rattle.spl_branch.specs.declared.pieces.Piece.TheVariants.{Do, Literal, Place, Branch, Mark, Call, Begin}

-- a pair is one stack operation other than NOP, with NOP on its right
abbrev pub is_single : Instr → Bool
is_single (i.Pair left right) = not (left.code == 0) && right.code == 0
is_single by = true

-- an instruction is a branch that is not indirect
abbrev pub is_direct : Instr → Bool
is_direct (i.Short test back d) = true
is_direct (i.Branch indirect back d) = not indirect
is_direct (i.OnCode mask back d) = true
is_direct (i.Loop modify back d) = true
is_direct by = false

-- an instruction is PCAL or SCAL
abbrev pub is_call : Instr → Bool
is_call (i.Control which n) = which == 0 || which == 3
is_call by = false

-- a piece has an instruction that some word has, and of its kind
abbrev pub is_formed : Piece → Bool
is_formed (Do by) = has_word by && is_single by
is_formed (Literal w) = true
is_formed (Place mark) = true
is_formed (Branch by mark) = has_word by && is_direct by
is_formed (Mark mark) = true
is_formed (Call by wanted index) = has_word by && is_call by
is_formed (Begin at) = true

-- the mark that a piece names
abbrev pub named : Piece → Option ℕ
named (Place mark) = Some mark
named (Branch by mark) = Some mark
named (Mark mark) = Some mark
named x = None

-- the mark that something names, if it names one, is one of so many
abbrev pub is_made : ℕ → Option ℕ → Bool
is_made n None = true
is_made n (Some l) = nat_lt l n

-- a piece sets no mark that is set, and only marks that were made
abbrev pub is_settable : List Bool → Piece → Bool
is_settable marks (Mark mark) = nat_lt mark (length marks) && not (slice_index_or marks mark false)
is_settable marks x = true

-- whether each mark is set, behind a piece
abbrev pub with_mark : List Bool → Piece → List Bool
with_mark marks (Mark mark) = slice_set marks mark true
with_mark marks x = marks

-- a mark was made and is set
abbrev pub is_set : List Bool → ℕ → Bool
is_set marks l = slice_index_or marks l false

-- the mark that something names, if it names one, is set
abbrev pub is_set_if : List Bool → Option ℕ → Bool
is_set_if marks None = true
is_set_if marks (Some l) = is_set marks l

-- how often a piece sets a mark
abbrev pub sets_once : ℕ → Piece → ℕ
sets_once l (Mark mark) = if mark == l then 1 else 0
sets_once l x = 0

-- how often pieces set a mark
abbrev pub sets : ℕ → List Piece → ℕ
sets l [] = 0
sets l (x ∷ ps) = sets_once l x + sets l ps

-- one for a mark that is set
abbrev pub once : Bool → ℕ
once b = if b then 1 else 0

-- each mark that is set was set by one piece, and no other mark by any
abbrev pub InStep : List Piece → List Bool → Type 0
InStep ps marks = (l : ℕ) → sets l ps ≡ once (is_set marks l)

-- the index of a call is that of a want or of an entry
abbrev pub is_indexed : ℕ → ℕ → Piece → Bool
is_indexed wants entries (Call by wanted index) = nat_lt index (if wanted then wants else entries)
is_indexed wants entries x = true

-- how many words a piece takes at most: a mark and the beginning of a statement none, a branch four, each other piece one
abbrev pub most_words : Piece → ℕ
most_words (Mark mark) = 0
most_words (Begin at) = 0
most_words (Branch by mark) = 4
most_words x = 1

-- how many words pieces take at most
abbrev pub count_of : List Piece → ℕ
count_of [] = 0
count_of (x ∷ ps) = most_words x + count_of ps
