-- The rows of the instructions that refer to memory or code, or branch: each is the flat machine's.
use Rattle.std.specs.Prelude.{ℕ, List, Err, if◌then◌else◌}
use Rattle.hp_word.specs.declared.endings.Trap.TheVariants.{Illegal}
use Rattle.hp_instr.specs.declared.instruction.Instr.{Instr}
use Rattle.hp_instr.specs.declared.instruction.Instr.TheVariants.{Short, Memory, LoadCode, Branch, OnCode, Loop}
use Rattle.hp_session.specs.State.{Machine, Outcome, passing}
use Rattle.hp_word_rows.specs.WordRows.{short_branch}
use Rattle.hp_memory_rows.specs.MemoryRows.{memory_row, code_loaded, branched, branched_on_code, loop_tested, loop_stepped}

-- the row of an instruction of the group, in a program with these segments; one that does not branch goes on past its word
unfoldable pub reference_row : List (List ℕ) → Instr → Machine → Outcome
reference_row segments (Short test back d) m = short_branch test back d m
reference_row segments (Memory major second x i mode) m = passing (memory_row major second mode i x m)
reference_row segments (LoadCode back d) m = passing (code_loaded segments back d m)
reference_row segments (Branch i back d) m = branched segments i back d m
reference_row segments (OnCode mask back d) m = branched_on_code mask back d m
reference_row segments (Loop modify back d) m = if modify then loop_stepped back d m else loop_tested back d m
reference_row segments _ m = Err Illegal
