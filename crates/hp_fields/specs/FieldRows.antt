-- The rows of the instructions that work on the top word, on fields of it, on X and on the number of words: each is the flat
-- machine's, and goes on past its word.
use Rattle.std.specs.Prelude.{Err}
use Rattle.hp_word.specs.declared.endings.Trap.TheVariants.{Illegal}
use Rattle.hp_instr.specs.declared.instruction.Instr.{Instr}
use Rattle.hp_instr.specs.declared.instruction.Instr.TheVariants.{Shifted, Immediate, Control}
use Rattle.hp_session.specs.State.{Machine, Outcome, passing}
use Rattle.hp_word_rows.specs.WordRows.{shifting, immediate_row, count_row}

-- what an instruction of the group does, but for going on
unfoldable pub field_act : Instr → Machine → Outcome
field_act (Shifted kind count) m = shifting kind count m
field_act (Immediate which n) m = immediate_row which n m
field_act (Control which n) m = count_row which n m
field_act _ m = Err Illegal

-- its row
abbrev pub field_row : Instr → Machine → Outcome
field_row i m = passing (field_act i m)
