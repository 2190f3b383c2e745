-- What is said of the words of a program, so that they lead from one place to another: the instruction at a place, and where a call's entry
-- and a branch's displacement go.
use Rattle.std.specs.Prelude.{◌≡◌, ◌==◌, ◌||◌, ℕ, ◌+◌, ◌%◌, Bool, true, false, nat_lt, if◌then◌else◌, List, Option, None, Some}
use Rattle.spl_follow.specs.hp_instr.declared.instruction.Instr.{Instr}
use Rattle.spl_follow.specs.hp_instr.declared.instruction.Instr.TheVariants as i
use Rattle.spl_follow.specs.hp_instr.declared.labels.Label.{Label}
use Rattle.spl_follow.specs.hp_instr.declared.labels.Label.TheVariants.{Local, External, Bad}
use Rattle.spl_follow.specs.hp_instr.Instructions.{instruction}
use Rattle.spl_follow.specs.hp_instr.Labels.{label}
use Rattle.spl_follow.specs.hp_program.Programs.{code_word, words_of}
use Rattle.spl_follow.specs.hp_program.Valid.{entries_of, label_of}
use Rattle.spl_follow.specs.Spots.{Spot, Point, Ground, start_at}
use Rattle.spl_follow.specs.Doing.{Way, gate, body, is_move}

-- ---- places

-- the right half of a place's word
abbrev pub right_half : Spot → Spot
right_half p = record { seg = p.seg; offset = p.offset; right = true }

-- the word at an offset of a place's segment
abbrev pub word_at : Spot → ℕ → Spot
word_at p offset = record { seg = p.seg; offset = offset; right = false }

-- ---- words

-- the word at a place has this instruction, and what is due there starts there
pub record HasInstr (g : Ground) (p : Point) (by : Instr) : Type 0 where
  pub start : start_at g p.at ≡ p.due
  pub word : ℕ
  pub there : code_word g.segments p.at.seg p.at.offset ≡ Some word
  pub is : instruction word ≡ by

-- a whole word that goes on behind itself, or leads on by its row: no pair, and no branch
abbrev pub is_whole : Instr → Bool
is_whole (i.Shifted kind count) = true
is_whole (i.Immediate which n) = true
is_whole (i.Control which n) = true
is_whole (i.Memory major second x indirect mode) = true
is_whole (i.LoadCode back d) = true
is_whole by = false

-- a step of a move, which stays at its word while elements are left
abbrev pub moves : Instr → Bool
moves (i.Control which n) = is_move which
moves by = false

-- the word at an offset of a segment, with that offset added, is an offset: a BR through it goes there
pub record Points (g : Ground) (seg offset to : ℕ) : Type 0 where
  pub word : ℕ
  pub there : code_word g.segments seg offset ≡ Some word
  pub sum : (offset + word) % 65536 ≡ to

-- ---- calls

-- where a label of a segment leads: a local one within it; an external one through another segment's table, or to the gate
abbrev pub way_of : List (List ℕ) → ℕ → Label → Option Way
way_of segments seg (Local offset) = Some (body (record { seg = seg; offset = offset; right = false }))
way_of segments seg (External s entry) =
    if s == 255 then Some (gate entry)
    else Some (body (record { seg = s; offset = label_of (words_of segments s) entry; right = false }))
way_of segments seg (Bad w) = None

-- where an entry of a segment's table leads; there is no entry 0, and none past their number
abbrev pub entry_way : List (List ℕ) → ℕ → ℕ → Option Way
entry_way segments seg n =
    if (n == 0) || nat_lt (entries_of (words_of segments seg)) n then None
    else way_of segments seg (label (label_of (words_of segments seg) n))

-- where a local label of a segment leads
abbrev pub local_way : ℕ → Label → Option Way
local_way seg (Local offset) = Some (body (record { seg = seg; offset = offset; right = false }))
local_way seg (External s entry) = None
local_way seg (Bad w) = None

-- where an entry of a segment's table leads a subroutine's call: it must be local
abbrev pub subroutine_way : List (List ℕ) → ℕ → ℕ → Option Way
subroutine_way segments seg n =
    if (n == 0) || nat_lt (entries_of (words_of segments seg)) n then None
    else local_way seg (label (label_of (words_of segments seg) n))
