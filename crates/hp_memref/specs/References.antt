-- References on registers and a stack: what a word of the current segment is, and where a branch leads.
use Rattle.std.specs.Prelude.{ℕ, ◌+◌, ◌*◌, Bool, false, List, slice_get, Option, option_and_then, Result, if◌then◌else◌}
use Rattle.hp_word.specs.declared.endings.Trap.{Trap}
use Rattle.hp_session.specs.declared.registers.Regs.{Regs}
use Rattle.hp_session.specs.State.{wrapped, displaced}
use Rattle.hp_memory_rows.specs.MemoryRows.{present}

-- what indexing adds to an operand of so many words
abbrev pub added_index : ℕ → Bool → Regs → ℕ
added_index size x regs = if x then size * regs.x else 0

-- the word at an offset of a segment that a store may hold
abbrev pub word_of_code : Option (List ℕ) → ℕ → Result ℕ Trap
word_of_code held offset = present (option_and_then (λ words. slice_get words offset) held)

-- the registers at an offset of the same segment, at the left half of its word
abbrev pub standing_at : ℕ → Regs → Regs
standing_at p regs = record regs { p = p; right = false }

-- where a branch leads that is taken or not
abbrev pub gone : Bool → Bool → ℕ → Regs → Regs
gone taken back d regs = standing_at (if taken then displaced back d regs.p else wrapped (regs.p + 1)) regs
