-- How many words each of these instructions takes, from the deepest that it names up to the top, and how many stand in their
-- place afterwards. What an S-relative operand refers to counts as named by no row.
use Rattle.std.specs.Prelude.{ℕ, Bool, ◌==◌, slice_index, if◌then◌else◌}
use Rattle.hp_word.specs.Words.{added}
use Rattle.hp_memory_rows.specs.MemoryRows.{goes_on}
use Rattle.hp_tos.specs.Seen.{Seen}
use Rattle.hp_tos.specs.Calls.{word_at}
use Rattle.hp_instr.specs.declared.instruction.Instr.{Instr}
use Rattle.hp_instr.specs.declared.instruction.Instr.TheVariants.{Short, Memory, LoadCode, Loop}
use Rattle.hp_rows.specs.Numbers.{Uses, uses}

-- those of a short branch with each code
unfoldable pub short_uses : ℕ → Uses
short_uses test =
    if test == 0o10 then uses 1 1 else  -- IABZ
    if test == 0o11 then uses 1 1 else  -- DABZ
    if test == 0o14 then uses 2 0 else  -- CPRB
    if test == 0o15 then uses 1 0 else  -- BRO
    if test == 0o16 then uses 1 0 else  -- BRE
    uses 0 0  -- IXBZ, DXBZ, BCY, BNCY, BOV, BNOV

-- those of a major with an operand in memory, by bit 6
unfoldable pub memory_uses : ℕ → Bool → Uses
memory_uses major second =
    if major == 4 then uses 0 1 else  -- LOAD
    if major == 5 then uses 1 0 else  -- STOR
    if major == 6 then uses 1 0 else  -- CMPM
    if major == 7 then uses 1 1 else  -- ADDM
    if major == 8 then uses 1 1 else  -- SUBM
    if major == 9 then uses 1 1 else  -- MPYM
    if major == 10 then uses 0 0 else  -- DECM, INCM
    if major == 11 then uses 0 0 else  -- LDX
    if major == 13 then (if second then uses 0 2 else uses 0 1) else  -- LDD, LDB
    if major == 14 then (if second then uses 2 0 else uses 1 0) else  -- STD, STB
    if major == 15 then uses 0 1 else  -- LRA
    uses 0 0

-- whether a loop goes on: by its variable, for TBA, or by the variable with the step added, for MTBA. The words of the stack
-- are those at the start of the step: C the variable's address, B the step, A the limit
abbrev pub tested_on : Seen → Bool
tested_on s = goes_on (slice_index s.words (word_at 2 s)) (word_at 1 s) (word_at 0 s)

abbrev pub stepped_on : Seen → Bool
stepped_on s = goes_on (added (slice_index s.words (word_at 2 s)) (word_at 1 s)).value (word_at 1 s) (word_at 0 s)

-- the three words stay where it goes on
abbrev pub loop_uses : Bool → Uses
loop_uses on = if on then uses 3 3 else uses 3 0

-- those of each instruction of the group, over a stack
unfoldable pub reference_uses : Instr → Seen → Uses
reference_uses (Short test back d) s = short_uses test
reference_uses (Memory major second x i mode) s = memory_uses major second
reference_uses (LoadCode back d) s = uses 0 1
reference_uses (Loop modify back d) s = loop_uses (if modify then stepped_on s else tested_on s)
reference_uses _ s = uses 0 0
