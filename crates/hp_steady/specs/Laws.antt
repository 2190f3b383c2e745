-- The laws of this crate: which rows leave the session where it stands, that a step only adds to what is printed, and how far the words
-- of a program reach.
use Rattle.std.specs.Prelude.{◌≡◌, ◌<◌, ℕ, Bool, List, length, take, Some}
use Rattle.hp_flat.specs.hp_instr.declared.instruction.Mode.{Mode}
use Rattle.hp_flat.specs.hp_program.declared.program.Program.{Program}
use Rattle.hp_flat.specs.hp_program.Programs.{code_word, segments_of}
use Rattle.hp_flat.specs.hp_session.State.{Machine}
use Rattle.hp_flat.specs.hp_stack_rows.StackRows.{operated}
use Rattle.hp_flat.specs.hp_word_rows.WordRows.{shifting, immediate_row, count_row}
use Rattle.hp_flat.specs.hp_memory_rows.MemoryRows.{memory_row, code_loaded}
use Rattle.hp_flat.specs.hp_memory_rows.MoveRows.{move_row}
use Rattle.hp_flat.specs.hp_call_rows.GateRows.{served}
use Rattle.hp_flat.specs.Step.{step}
use Rattle.hp_steady.specs.Rest.{Stays, StaysSeated, StaysOrPasses}

-- ---- rows that stay

-- operations on the top words
abbrev pub OperationsStay : Type 0
OperationsStay = (code : ℕ) (m : Machine) → Stays m (operated code m)

abbrev pub ShiftsStay : Type 0
ShiftsStay = (kind count : ℕ) (m : Machine) → Stays m (shifting kind count m)

-- immediate numbers, fields, and the change of mode
abbrev pub ImmediatesStay : Type 0
ImmediatesStay = (which n : ℕ) (m : Machine) → Stays m (immediate_row which n m)

-- the rows that count: X plus or minus a number, room, zeros, words deleted
abbrev pub CountsStay : Type 0
CountsStay = (which n : ℕ) (m : Machine) → Stays m (count_row which n m)

-- loads, stores and sums with an operand in memory
abbrev pub MemoryRowsStay : Type 0
MemoryRowsStay = (major : ℕ) (second : Bool) (mode : Mode) (i x : Bool) (m : Machine) → Stays m (memory_row major second mode i x m)

abbrev pub CodeLoadsStay : Type 0
CodeLoadsStay = (segments : List (List ℕ)) (back : Bool) (d : ℕ) (m : Machine) → Stays m (code_loaded segments back d m)

-- moves, scans and byte comparisons
abbrev pub MovesStayOrPass : Type 0
MovesStayOrPass = (segments : List (List ℕ)) (which n : ℕ) (m : Machine) → StaysOrPasses m (move_row segments which n m)

-- an intrinsic, before the word after the call is next
abbrev pub IntrinsicsStay : Type 0
IntrinsicsStay = (entry : ℕ) (m : Machine) → StaysSeated m (served entry m)

-- ---- programs

-- a step only adds to what is printed
abbrev pub StepsAddPrints : Program → Type 0
StepsAddPrints p = (m : Machine) → take (length m.printed) (step (segments_of p) m).printed ≡ m.printed

-- A word of the code has an offset below 16,383 and a segment below 62: so the offset of the word after it is one too, and a segment's
-- number goes into a status word.
abbrev pub WordsAreNear : Program → Type 0
WordsAreNear p = (seg offset w : ℕ) → code_word (segments_of p) seg offset ≡ Some w → (offset < 16383) × (seg < 62)
