-- The laws of this crate: real words as what leads from their place on. Each holds at every place of every program.
use Rattle.std.specs.Prelude.{◌≡◌, ◌==◌, ◌<◌, ℕ, ◌+◌, Bool, true, false, Some}
use Rattle.spl_follow.specs.hp_instr.declared.instruction.Instr.{Instr}
use Rattle.spl_follow.specs.hp_instr.declared.instruction.Instr.TheVariants as i
use Rattle.spl_follow.specs.hp_instr.declared.instruction.Op.{Op}
use Rattle.spl_follow.specs.spl_branch.Branches.{aimed, toward, through, past}
use Rattle.spl_follow.specs.spl_branch.Pieces.{is_direct}
use Rattle.spl_follow.specs.Spots.{next_word, Point, on, Ground}
use Rattle.spl_follow.specs.Leading.{Leads}
use Rattle.spl_follow.specs.Doing.{doing, turning, Way, calling}
use Rattle.hp_leads.specs.Words.{right_half, word_at, HasInstr, is_whole, moves, Points, entry_way, subroutine_way}

-- ---- instructions

-- the left operation of a pair goes on in the right half, where an operation stands there
abbrev pub LeftOperationsLead : Type 0
LeftOperationsLead = (g : Ground) (p : Point) (left right any : Op) → p.at.right ≡ false → (right.code == 0) ≡ false → HasInstr g p (i.Pair left right)
    → Leads g p (right_half p.at) (doing g.segments (i.Pair left any) (right_half p.at))

-- and else behind the word
abbrev pub SingleOperationsLead : Type 0
SingleOperationsLead = (g : Ground) (p : Point) (left right any : Op) → p.at.right ≡ false → (right.code == 0) ≡ true → HasInstr g p (i.Pair left right)
    → Leads g p (next_word p.at) (doing g.segments (i.Pair left any) (next_word p.at))

-- the right operation goes on behind the word
abbrev pub RightOperationsLead : Type 0
RightOperationsLead = (g : Ground) (p : Point) (left right any : Op) → p.at.right ≡ true → HasInstr g p (i.Pair left right)
    → Leads g p (next_word p.at) (doing g.segments (i.Pair right any) (next_word p.at))

-- a word of one instruction: shifts, immediate numbers, operands in memory and code, counts, returns, and steps of moves, which begin in no right half
abbrev pub WholeWordsLead : Type 0
WholeWordsLead = (g : Ground) (p : Point) (by : Instr) → is_whole by ≡ true → (moves by ≡ true → p.at.right ≡ false) → HasInstr g p by
    → Leads g p (next_word p.at) (doing g.segments by (next_word p.at))

-- ---- branches

-- a branch that reaches an offset
abbrev pub BranchesLead : Type 0
BranchesLead = (g : Ground) (p : Point) (by : Instr) (t : ℕ) → is_direct by ≡ true → t < 65536 → HasInstr g p (toward by p.at.offset t)
    → Leads g p (next_word p.at) (turning by (word_at p.at t) (next_word p.at))

-- a BR through the word behind it
abbrev pub FarJumpsLead : Type 0
FarJumpsLead = (g : Ground) (p : Point) (t : ℕ) (back : Bool) (d : ℕ) → HasInstr g p through → Points g p.at.seg (p.at.offset + 1) t
    → Leads g p (word_at p.at (p.at.offset + 2)) (turning (i.Branch false back d) (word_at p.at t) (word_at p.at (p.at.offset + 2)))

-- the long form of another branch, over a BR past such a BR; no start is among its words
abbrev pub FarBranchesLead : Type 0
FarBranchesLead = (g : Ground) (p : Point) (by : Instr) (t : ℕ) → is_direct by ≡ true → t < 65536 → HasInstr g p (aimed by false 2)
    → HasInstr g (on (word_at p.at (p.at.offset + 1))) past → HasInstr g (on (word_at p.at (p.at.offset + 2))) through
    → Points g p.at.seg (p.at.offset + 3) t
    → Leads g p (word_at p.at (p.at.offset + 4)) (turning by (word_at p.at t) (word_at p.at (p.at.offset + 4)))

-- ---- calls

-- PCAL through an entry that leads to a procedure or to the gate; which entry a piece of code gave it is of no matter
abbrev pub ProcedureCallsLead : Type 0
ProcedureCallsLead = (g : Ground) (p : Point) (n any : ℕ) (way : Way) → HasInstr g p (i.Control 0 n) → entry_way g.segments p.at.seg n ≡ Some way
    → Leads g p (next_word p.at) (calling (i.Control 0 any) way (next_word p.at))

-- SCAL through a local entry
abbrev pub SubroutineCallsLead : Type 0
SubroutineCallsLead = (g : Ground) (p : Point) (n any : ℕ) (way : Way) → HasInstr g p (i.Control 3 n) → subroutine_way g.segments p.at.seg n ≡ Some way
    → Leads g p (next_word p.at) (calling (i.Control 3 any) way (next_word p.at))
