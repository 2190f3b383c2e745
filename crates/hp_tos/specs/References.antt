-- References to data: which list an address is of, and what a read answers and a write leaves.
-- A word counts as on the stack whether it stands in memory or in a register.
use Rattle.std.specs.Prelude.{ℕ, List, length, slice_set, Result, if◌then◌else◌}
use Rattle.hp_window.specs.declared.bounds.Bounds.{Bounds}
use Rattle.hp_window.specs.Window.{bounded, read_below}
use Rattle.hp_tos.specs.Seen.{Seen}

-- the words that DB addresses: those of the extra segment in split mode, else those of the stack
abbrev pub db_words : Seen → List ℕ
db_words s = if s.split then s.extra else s.words

-- the word at an address, which is in bounds where it is below the number of words
abbrev pub read_of : List ℕ → ℕ → Result ℕ Bounds
read_of words address = read_below words address (length words)

-- the answer of a write at an address
abbrev pub write_of : List ℕ → ℕ → Result (Unit {0}) Bounds
write_of words address = bounded address (length words) tt

-- w in place of the word of the stack at an address
abbrev pub stack_written : ℕ → ℕ → Seen → Seen
stack_written address w s = record s { words = slice_set s.words address w }

-- w in place of the word that DB addresses
abbrev pub db_written : ℕ → ℕ → Seen → Seen
db_written address w s =
    if s.split then record s { extra = slice_set s.extra address w } else stack_written address w s
