-- How a stack stands in its fields: the words in memory, then those in registers. What the room has above the words in
-- memory is of no account: a word that was filled or dropped may still stand there, beneath a register with a newer one.
use Rattle.std.specs.Prelude.{ℕ, List, ◌++◌, length, take}
use Rattle.hp_tos.specs.declared.data.Data.{Data}
use Rattle.hp_tos.specs.Lists.{lists}
use Rattle.hp_tos.specs.Seen.{Seen}

-- the stack of which so many words, the first of the room, stand in memory, and above them these in registers
unfoldable pub seen_of : Data → ℕ → List ℕ → ℕ → ℕ → Seen
seen_of memory sm registers fills spills = record {
  words = take sm (lists memory).stack ++ registers;
  in_registers = length registers;
  limit = length (lists memory).stack;
  extra = (lists memory).extra;
  split = (lists memory).split;
  fills = fills;
  spills = spills;
  capacity = (lists memory).capacity;
  extra_capacity = (lists memory).extra_capacity;
}
