-- The instructions that code is written with have words.
use Rattle.std.proofs.Common.{◌≡◌, ℕ, zero, suc, ◌<◌, ◌||◌, ◌==◌, Bool, true, false, List, [], ◌∷◌, length, get_or, drop, refl, ◌⊎◌, inl, inr}
use Rattle.std.specs.List.{list_all}
use Rattle.std.proofs.lemmas.Bool.{and_parts, and_from, lt-ltb, eqb-true}
use Rattle.std.proofs.lemmas.List.Recursion.{and_at}
use Rattle.hp_instr.specs.declared.instruction.Instr.{Instr}
use Rattle.hp_instr.specs.declared.instruction.Instr.TheVariants as i
use Rattle.hp_instr.specs.declared.instruction.Op.{Op}
use Rattle.hp_instr.specs.Fields.{is_op, is_control}
use Rattle.hp_instr.specs.Given.{has_word}
use Rattle.spl_branch.specs.declared.pieces.Piece.{Piece}
use Rattle.spl_branch.specs.declared.pieces.Piece.TheVariants.{Do, Literal, Place, Branch, Mark, Call, Begin}
use Rattle.spl_branch.specs.Pieces.{is_formed, is_single, is_call}
use Rattle.spl_branch.specs.Branches.{through, past}
use Rattle.spl_branch.specs.Stands.{ahead, operation, operation_of}

-- BR through a word, and BR past three words
pub through_has_word : has_word through ≡ true
unfolding has_word
through_has_word = refl

pub past_has_word : has_word past ≡ true
unfolding has_word
past_has_word = refl

-- a call has any entry of eight bits
pcal_has_word : (e : ℕ) → e < 256 → has_word (i.Control 0 e) ≡ true
unfolding has_word is_control
pcal_has_word e low = lt-ltb e 256 low

scal_has_word : (e : ℕ) → e < 256 → has_word (i.Control 3 e) ≡ true
unfolding has_word is_control
scal_has_word e low = lt-ltb e 256 low

either : (a b : Bool) → (a || b) ≡ true → (a ≡ true) ⊎ (b ≡ true)
either true b h = inl refl
either false b h = inr h

pub call_has_word : (which n e : ℕ) → e < 256 → is_call (i.Control which n) ≡ true → has_word (i.Control which e) ≡ true
call_has_word which n e low h = go (either (which == 0) (which == 3) h) where
  go : ((which == 0) ≡ true) ⊎ ((which == 3) ≡ true) → has_word (i.Control which e) ≡ true
  go (inl z) = rw (eqb-true which 0 z) (pcal_has_word e low)
  go (inr z) = rw (eqb-true which 3 z) (scal_has_word e low)

-- a stack operation and the one that follows
pub pair_has_word : (left right next : Op) → has_word (i.Pair left right) ≡ true → is_op next.code ≡ true → has_word (i.Pair left next) ≡ true
unfolding has_word
pair_has_word left right next h n = and_from _ _ (and_parts (is_op left.code) (is_op right.code) h).0 n

-- NOP is an operation
nop_listed : is_op 0 ≡ true
unfolding is_op
nop_listed = refl

operation_listed : (by : Instr) → has_word by ≡ true → is_op (operation_of by).code ≡ true
unfolding has_word
operation_listed (i.Pair left right) h = (and_parts (is_op left.code) (is_op right.code) h).0
operation_listed (i.Shifted kind count) h = nop_listed
operation_listed (i.Short test back d) h = nop_listed
operation_listed (i.Immediate which n) h = nop_listed
operation_listed (i.Control which n) h = nop_listed
operation_listed (i.Memory major second x ind mode) h = nop_listed
operation_listed (i.LoadCode back d) h = nop_listed
operation_listed (i.Branch ind back d) h = nop_listed
operation_listed (i.OnCode mask back d) h = nop_listed
operation_listed (i.Loop modify back d) h = nop_listed
operation_listed (i.Illegal w) h = nop_listed

piece_listed : (x : Piece) → is_formed x ≡ true → is_op (operation x).code ≡ true
piece_listed (Do by) h = operation_listed by (and_parts (has_word by) (is_single by) h).0
piece_listed (Literal w) h = nop_listed
piece_listed (Place l) h = nop_listed
piece_listed (Branch by l) h = nop_listed
piece_listed (Mark l) h = nop_listed
piece_listed (Call by wanted index) h = nop_listed
piece_listed (Begin at) h = nop_listed

-- the operation at the front of formed pieces is one, or NOP
pub ahead_listed : (ps : List Piece) → list_all is_formed ps ≡ true → is_op (ahead ps).code ≡ true
ahead_listed [] h = nop_listed
ahead_listed (x ∷ ps) h = piece_listed x (and_parts (is_formed x) (list_all is_formed ps) h).0

-- what is left of formed pieces is formed
pub formed_left : (ps : List Piece) (k : ℕ) → list_all is_formed ps ≡ true → list_all is_formed (drop k ps) ≡ true
formed_left ps zero h = h
formed_left [] (suc k) h = refl
formed_left (x ∷ ps) (suc k) h = formed_left ps k (and_parts (is_formed x) (list_all is_formed ps) h).1

-- each of formed pieces is formed
pub formed_at : (ps : List Piece) (k : ℕ) (d : Piece) → k < length ps → list_all is_formed ps ≡ true → is_formed (get_or ps k d) ≡ true
formed_at ps k d lt h = and_at (list_all is_formed) is_formed refl (λ _ _. refl) ps k d lt h
