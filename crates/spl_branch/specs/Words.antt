-- The words of pieces, one behind the other, before anything is put in.
use Rattle.std.specs.Prelude.{ℕ, ◌+◌, ◌-◌, ◌%◌, false, if◌then◌else◌, List, [], ◌∷◌, ◌++◌}
use Rattle.hp_instr.specs.declared.instruction.Instr.{Instr}
use Rattle.hp_instr.specs.declared.instruction.Instr.TheVariants as i
use Rattle.hp_instr.specs.declared.instruction.Op.{Op}
use Rattle.hp_instr.specs.Encoded.{encoded}
use Rattle.spl_branch.specs.declared.pieces.Piece.{Piece}
use Rattle.spl_branch.specs.declared.pieces.Piece.TheVariants.{Do, Literal, Place, Branch, Mark, Call, Begin}
use Rattle.spl_branch.specs.Branches.{toward, is_far, aimed, through, past, calling}
use Rattle.spl_branch.specs.declared.spots.Spot.{Spot}
use Rattle.spl_branch.specs.Stands.{ahead, after}

-- the words of an instruction: a stack operation on the right has its word already
abbrev pub instr_words : Spot → Instr → Op → List ℕ
instr_words p (i.Pair left right) next = if p.right then [] else encoded (i.Pair left next) ∷ []
instr_words p by next = encoded by ∷ []

-- the word at p that, added to p, gives t
abbrev pub distance : ℕ → ℕ → ℕ
distance p t = (t + 65536 - p) % 65536

-- the words of a branch's long form
abbrev pub far_words : Instr → ℕ → ℕ → List ℕ
far_words (i.Branch indirect back d) p t = encoded through ∷ distance (p + 1) t ∷ []
far_words by p t = encoded (aimed by false 2) ∷ encoded past ∷ encoded through ∷ distance (p + 3) t ∷ []

-- the words of a branch at p to t
abbrev pub branch_words : Instr → ℕ → ℕ → List ℕ
branch_words by p t = if is_far by p t then far_words by p t else encoded (toward by p t) ∷ []

-- the words of a piece
abbrev pub piece_words : (ℕ → ℕ) → Spot → Piece → Op → List ℕ
piece_words marks p (Do by) next = instr_words p by next
piece_words marks p (Literal w) next = w ∷ []
piece_words marks p (Place l) next = marks l ∷ []
piece_words marks p (Branch by l) next = branch_words by p.offset (marks l)
piece_words marks p (Mark l) next = []
piece_words marks p (Call by wanted index) next = encoded (calling by 0) ∷ []
piece_words marks p (Begin at) next = []

-- the words of pieces that begin at p
abbrev pub words_of : (ℕ → ℕ) → Spot → List Piece → List ℕ
words_of marks p [] = []
words_of marks p (x ∷ ps) = piece_words marks p x (ahead ps) ++ words_of marks (after marks p x (ahead ps)) ps
