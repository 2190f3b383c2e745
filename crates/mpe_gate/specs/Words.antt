-- What a call makes of the stack's words, none of which stands in a register.
use Rattle.std.specs.Prelude.{ℕ, ◌-◌, List, ◌++◌, length, take}
use Rattle.hp_tos.specs.Seen.{Seen}

-- the stack with other words, each in its place
abbrev pub with_words : List ℕ → Seen → Seen
with_words words s = record s { words = words }

-- an answer in place of the n top words: its words stand in registers, of which there are enough
abbrev pub answered : ℕ → List ℕ → Seen → Seen
answered n answer s = record s { words = take (length s.words - n) s.words ++ answer; in_registers = length answer }
