-- One step of the flat machine, and a run of many. The word at P is fetched, its row decides, and a trap changes the
-- ending alone.
use Rattle.std.specs.Prelude.{ℕ, zero, suc, Bool, true, false, ◌==◌, nat_le, List, Option, None, Some, Ok, Err, if◌then◌else◌}
use Rattle.hp_word.specs.declared.endings.Ending.{Ending}
use Rattle.hp_word.specs.declared.endings.Ending.TheVariants.{Running, Trapped}
use Rattle.hp_word.specs.declared.endings.Trap.TheVariants.{CodeBounds, Illegal}
use Rattle.hp_instr.specs.declared.instruction.Instr.{Instr}
use Rattle.hp_instr.specs.declared.instruction.Instr.TheVariants.{Pair, Shifted, Short, Immediate, Control, Memory, LoadCode, Branch, OnCode, Loop}
use Rattle.hp_instr.specs.declared.instruction.Op.{Op}
use Rattle.hp_instr.specs.Instructions.{instruction}
use Rattle.hp_program.specs.Programs.{code_word}
use Rattle.hp_session.specs.State.{Machine, Outcome, then_with, passing}
use Rattle.hp_stack_rows.specs.StackRows.{operated}
use Rattle.hp_word_rows.specs.WordRows.{shifting, short_branch, immediate_row, count_row}
use Rattle.hp_memory_rows.specs.MemoryRows.{memory_row, code_loaded, branched, branched_on_code, loop_tested, loop_stepped}
use Rattle.hp_memory_rows.specs.MoveRows.{move_row}
use Rattle.hp_call_rows.specs.CallRows.{called, subroutine_called, exited, subroutine_left}

-- R is 1: the next step is the right operation of the word at P
abbrev pub at_right : Machine → Machine
at_right m = record m { regs = record m.regs { right = true } }

-- R is 0
abbrev pub at_left : Machine → Machine
at_left m = record m { regs = record m.regs { right = false } }

-- a pair: with R at 1 its right operation, which clears R and passes P. Else its left one; then R is 1, unless the right
-- operation is NOP: then P is passed
unfoldable pub pair_row : Op → Op → Machine → Outcome
pair_row left right m =
    if m.regs.right then passing (operated right.code m) else
    if right.code == 0 then passing (operated left.code m) else
    then_with (operated left.code m) (λ n. Ok (at_right n))

-- major 3: calls and returns, counts of words, moves
unfoldable pub control_row : List (List ℕ) → ℕ → ℕ → Machine → Outcome
control_row segments which n m =
    if which == 0 then called segments n m else  -- PCAL
    if which == 1 then exited segments n m else  -- EXIT
    if which == 2 then subroutine_left n m else  -- SXIT
    if which == 3 then subroutine_called segments n m else  -- SCAL
    if nat_le which 8 then passing (count_row which n m) else
    move_row segments which n m

-- the row of each instruction that is a whole word
unfoldable pub word_row : List (List ℕ) → Instr → Machine → Outcome
word_row segments (Shifted kind count) m = passing (shifting kind count m)
word_row segments (Short test back d) m = short_branch test back d m
word_row segments (Immediate which n) m = passing (immediate_row which n m)
word_row segments (Control which n) m = control_row segments which n m
word_row segments (Memory major second x i mode) m = passing (memory_row major second mode i x m)
word_row segments (LoadCode back d) m = passing (code_loaded segments back d m)
word_row segments (Branch i back d) m = branched segments i back d m
word_row segments (OnCode mask back d) m = branched_on_code mask back d m
word_row segments (Loop modify back d) m = if modify then loop_stepped back d m else loop_tested back d m
word_row segments _ m = Err Illegal

-- the row of each instruction. One that is no pair is done whole, also with R at 1, which is cleared first; a word that is no
-- instruction traps
unfoldable pub row : List (List ℕ) → Instr → Machine → Outcome
row segments (Pair left right) m = pair_row left right m
row segments i m = word_row segments i (at_left m)

-- what the word at P does; there must be one
abbrev pub by_word : List (List ℕ) → Option ℕ → Machine → Outcome
by_word segments None m = Err CodeBounds
by_word segments (Some w) m = row segments (instruction w) m

unfoldable pub outcome : List (List ℕ) → Machine → Outcome
outcome segments m = by_word segments (code_word segments m.regs.seg m.regs.p) m

-- a trap changes the ending alone
abbrev pub ended : Machine → Outcome → Machine
ended m (Ok next) = next
ended m (Err t) = record m { ending = Trapped t }

-- one step
unfoldable pub step : List (List ℕ) → Machine → Machine
step segments m = ended m (outcome segments m)

-- the session has not ended
abbrev pub is_running : Ending → Bool
is_running Running = true
is_running _ = false

-- n steps; a session that has ended stays as it is
unfoldable pub after : List (List ℕ) → ℕ → Machine → Machine
after segments zero m = m
after segments (suc n) m = if is_running m.ending then after segments n (step segments m) else m
