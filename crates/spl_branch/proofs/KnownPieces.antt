-- Pieces worked by hand: pairs, marks between, both forms of branches, fixes and starts.
use Rattle.std.specs.Prelude.{◌≡◌, ℕ, ◌-◌, true, false, [], ◌∷◌}
use Rattle.std.proofs.Common.{refl}
use Rattle.hp_instr.specs.declared.instruction.Instr.{Instr}
use Rattle.hp_instr.specs.declared.instruction.Instr.TheVariants as i
use Rattle.hp_instr.specs.Instructions.{op}
use Rattle.hp_instr.specs.Encoded.{encoded}
use Rattle.spl_branch.specs.declared.pieces.Piece.{Piece}
use Rattle.spl_branch.specs.declared.pieces.Piece.TheVariants.{Do, Literal, Place, Branch, Mark, Call, Begin}
use Rattle.spl_branch.specs.declared.modules.FixKind.TheVariants as kind
use Rattle.spl_branch.specs.Pieces.{is_single, count_of}
use Rattle.spl_branch.specs.Branches.{branch_size}
use Rattle.spl_branch.specs.Stands.{at_left, end_of}
use Rattle.spl_branch.specs.Fixes.{fixes_of}
use Rattle.spl_branch.specs.Modules.{with_entry}
use Rattle.spl_branch.specs.Words.{words_of}

-- ADD and DEL, BRE and BR, PCAL
abbrev add : Piece
add = Do (i.Pair (op 0o20) (op 0))

abbrev del : Piece
del = Do (i.Pair (op 0o40) (op 0))

abbrev bre : Instr
bre = i.Short 0o16 false 0

abbrev br : Instr
br = i.Branch false false 0

abbrev pcal : Instr
pcal = i.Control 0 0

-- every mark at one offset
abbrev all_at : ℕ → ℕ → ℕ
all_at o l = o

-- two operations that follow one another have one word, ADD in its left half
pairs : words_of (all_at 0) (at_left 0) (add ∷ del ∷ del ∷ []) ≡ 0o002040 ∷ 0o004000 ∷ []
unfolding encoded
pairs = refl

-- not across a mark, nor the beginning of a statement
parted : words_of (all_at 1) (at_left 0) (add ∷ Mark 0 ∷ del ∷ []) ≡ 0o002000 ∷ 0o004000 ∷ []
unfolding encoded
parted = refl

begun : words_of (all_at 0) (at_left 0) (add ∷ Begin (record { unit = 1; line = 1; column = 1 }) ∷ del ∷ []) ≡ 0o002000 ∷ 0o004000 ∷ []
unfolding encoded
begun = refl

half_done : end_of (all_at 0) (at_left 0) (add ∷ del ∷ []) ≡ at_left 1
half_done = refl

-- BRE reaches 31 words and BR 255, forward and back
bre_at_31 : branch_size bre 0 31 ≡ 1
bre_at_31 = refl

bre_at_32 : branch_size bre 0 32 ≡ 4
bre_at_32 = refl

br_back_at_255 : branch_size br 255 0 ≡ 1
br_back_at_255 = refl

br_back_at_256 : branch_size br 256 0 ≡ 2
br_back_at_256 = refl

-- BRE five words on; BR through the word behind it, which is 299 on; BRE over a BR past such a BR, 29 words before itself
short_on : words_of (all_at 5) (at_left 0) (Branch bre 0 ∷ []) ≡ 0o011605 ∷ []
unfolding encoded
short_on = refl

long_on : words_of (all_at 300) (at_left 0) (Branch br 0 ∷ []) ≡ 0o142001 ∷ 299 ∷ []
unfolding encoded
long_on = refl

long_back : words_of (all_at 0) (at_left 40) (Branch bre 0 ∷ []) ≡ 0o011602 ∷ 0o140003 ∷ 0o142001 ∷ (65536 - 43) ∷ []
unfolding encoded
long_back = refl

-- a call has 0 as its entry, and a fix at its word; a place has a fix that says where the mark is
called : words_of (all_at 7) (at_left 3) (Call pcal true 2 ∷ Place 0 ∷ []) ≡ 0o030000 ∷ 7 ∷ []
unfolding encoded
called = refl

fixes : fixes_of (all_at 7) (at_left 3) (add ∷ Call pcal true 2 ∷ Place 0 ∷ []) ≡ record { offset = 4; kind = kind.Want; index = 2 } ∷ record { offset = 5; kind = kind.Place; index = 7 } ∷ []
fixes = refl

with_entry_5 : with_entry 0o030000 5 ≡ 0o030005
with_entry_5 = refl

-- NOP is no piece
no_nop : is_single (i.Pair (op 0) (op 0)) ≡ false
no_nop = refl

-- a branch counts as four words, a mark as none
counts : count_of (add ∷ Mark 0 ∷ Branch br 0 ∷ Literal 9 ∷ []) ≡ 6
counts = refl
