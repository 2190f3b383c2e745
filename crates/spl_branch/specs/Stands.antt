-- What it means that words of a segment stand for pieces, from one place to another: which word has which instruction, in
-- which half. The words may stand anywhere in the segment, and have the entries and offsets put in.
use Rattle.std.specs.Prelude.{ℕ, ◌≡◌, ◌==◌, ◌+◌, ◌%◌, Bool, true, false, if◌then◌else◌, List, [], ◌∷◌, slice_get, Some}
use Rattle.std.specs.Bool.{MatchBool}
use Rattle.hp_instr.specs.declared.instruction.Instr.{Instr}
use Rattle.hp_instr.specs.declared.instruction.Instr.TheVariants as i
use Rattle.hp_instr.specs.declared.instruction.Op.{Op}
use Rattle.hp_instr.specs.Instructions.{instruction, op}
use Rattle.spl_branch.specs.declared.pieces.Piece.{Piece}
use Rattle.spl_branch.specs.declared.pieces.Piece.TheVariants.{Do, Literal, Place, Branch, Mark, Call, Begin}
use Rattle.spl_branch.specs.declared.spots.Spot.{Spot}
use Rattle.spl_branch.specs.Branches.{toward, is_far, branch_size, aimed, through, past, calling}

-- the left half of a word, or a word of one instruction
abbrev pub at_left : ℕ → Spot
at_left p = record { offset = p; right = false }

-- the right half of a word
abbrev pub at_right : ℕ → Spot
at_right p = record { offset = p; right = true }

-- what the segment gives to a module: the offset of each mark, and the entry of each define (false) and want (true)
pub record Sites : Type 0 where
  pub marks : ℕ → ℕ
  pub entries : Bool → ℕ → ℕ

-- the stack operation of an instruction, NOP where it has none
abbrev pub operation_of : Instr → Op
operation_of (i.Pair left right) = left
operation_of by = op 0

-- the stack operation that a piece is, NOP for each other piece
abbrev pub operation : Piece → Op
operation (Do by) = operation_of by
operation x = op 0

-- the stack operation at the front of pieces, NOP where there is none
abbrev pub ahead : List Piece → Op
ahead [] = op 0
ahead (x ∷ ps) = operation x

-- where the next piece stands behind an instruction: a stack operation on the left goes on in the right half of its word where
-- an operation follows
abbrev pub past_instr : Spot → Instr → Op → Spot
past_instr p (i.Pair left right) next = if p.right then at_left (p.offset + 1) else if next.code == 0 then at_left (p.offset + 1) else at_right p.offset
past_instr p by next = at_left (p.offset + 1)

-- where the next piece stands, where a branch has n words and this operation follows
abbrev pub moved : ℕ → Spot → Piece → Op → Spot
moved n p (Do by) next = past_instr p by next
moved n p (Literal w) next = at_left (p.offset + 1)
moved n p (Place l) next = at_left (p.offset + 1)
moved n p (Branch by l) next = at_left (p.offset + n)
moved n p (Mark l) next = p
moved n p (Call by wanted index) next = at_left (p.offset + 1)
moved n p (Begin at) next = p

-- how many words a piece has at this offset if it is a branch, by the marks' offsets
abbrev pub size_at : (ℕ → ℕ) → ℕ → Piece → ℕ
size_at marks p (Branch by l) = branch_size by p (marks l)
size_at marks p x = 1

-- where the next piece stands, each branch in the form that its distance asks for
abbrev pub after : (ℕ → ℕ) → Spot → Piece → Op → Spot
after marks p x next = moved (size_at marks p.offset x) p x next

-- where pieces end that begin at p
abbrev pub end_of : (ℕ → ℕ) → Spot → List Piece → Spot
end_of marks p [] = p
end_of marks p (x ∷ ps) = end_of marks (after marks p x (ahead ps)) ps

-- the word at an offset has this instruction
abbrev pub Has : List ℕ → ℕ → Instr → Type 0
Has words p by = (w : ℕ) × (slice_get words p ≡ Some w) × (instruction w ≡ by)

-- the word at an offset leads to t where a BR goes through it: it is added to its own offset
abbrev pub LeadsTo : List ℕ → ℕ → ℕ → Type 0
LeadsTo words p t = (w : ℕ) × (slice_get words p ≡ Some w) × ((p + w) % 65536 ≡ t)

-- an instruction stands at p; a stack operation in one half of a word, whose other half has the operation that follows, or
-- NOP where none follows, or the one before
abbrev pub Does : List ℕ → Spot → Instr → Op → Type 0
Does words p (i.Pair left right) next = MatchBool p.right ((first : Op) × Has words p.offset (i.Pair first left)) (Has words p.offset (i.Pair left next))
Does words p by next = (p.right ≡ false) × Has words p.offset by

-- the long form of a branch at p to t: BR through a word, or the branch over a BR past such a BR
abbrev pub TurnsFar : List ℕ → ℕ → Instr → ℕ → Type 0
TurnsFar words p (i.Branch indirect back d) t = Has words p through × LeadsTo words (p + 1) t
TurnsFar words p by t = Has words p (aimed by false 2) × Has words (p + 1) past × Has words (p + 2) through × LeadsTo words (p + 3) t

-- a branch stands at p and leads to t, in its short form where that reaches
abbrev pub Turns : List ℕ → ℕ → Instr → ℕ → Type 0
Turns words p by t = MatchBool (is_far by p t) (TurnsFar words p by t) (Has words p (toward by p t))

-- a piece stands at p, with this operation behind it
abbrev pub Holds : List ℕ → Sites → Spot → Piece → Op → Type 0
Holds words s p (Do by) next = Does words p by next
Holds words s p (Literal w) next = (p.right ≡ false) × (slice_get words p.offset ≡ Some w)
Holds words s p (Place l) next = (p.right ≡ false) × (slice_get words p.offset ≡ Some (s.marks l))
Holds words s p (Branch by l) next = (p.right ≡ false) × Turns words p.offset by (s.marks l)
Holds words s p (Mark l) next = p ≡ at_left (s.marks l)
Holds words s p (Call by wanted index) next = (p.right ≡ false) × Has words p.offset (calling by (s.entries wanted index))
Holds words s p (Begin at) next = p.right ≡ false

-- the words from p to q stand for pieces
abbrev pub Stands : List ℕ → Sites → Spot → List Piece → Spot → Type 0
Stands words s p [] q = p ≡ q
Stands words s p (x ∷ ps) q = Holds words s p x (ahead ps) × Stands words s (after s.marks p x (ahead ps)) ps q

-- a mark stands where it is said to
abbrev pub MarkStands : (ℕ → ℕ) → Spot → Piece → Type 0
MarkStands marks p (Mark l) = marks l ≡ p.offset
MarkStands marks p x = Unit {0}

-- the marks of pieces that begin at p stand where they are said to, when each branch has the form that its distance asks for
abbrev pub Settled : (ℕ → ℕ) → Spot → List Piece → Type 0
Settled marks p [] = Unit {0}
Settled marks p (x ∷ ps) = MarkStands marks p x × Settled marks (after marks p x (ahead ps)) ps
