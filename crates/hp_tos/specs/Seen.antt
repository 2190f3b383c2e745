-- A stack whose top words may stand in registers, as whoever calls it sees it: one list of words and three numbers.
use Rattle.std.specs.Prelude.{ℕ, ◌^◌, ◌<◌, ◌≤◌, Bool, false, List, length, take}

-- what a stack stands for
pub record Seen : Type 0 where
  -- the words of the stack, the lowest first: those in memory, then those in registers
  pub words : List ℕ
  -- SR, how many of the top words stand in registers
  pub in_registers : ℕ
  -- STACK, the greatest number of words
  pub limit : ℕ
  -- the words of the extra segment
  pub extra : List ℕ
  -- split mode: DB addresses the extra segment
  pub split : Bool
  -- how many words were moved from memory into a register, and how many from a register into memory, modulo 2 ^ 64
  pub fills : ℕ
  pub spills : ℕ
  -- for how many words of the stack, and of the extra segment, memory is reserved
  pub capacity : ℕ
  pub extra_capacity : ℕ

-- what each stack keeps
pub record IsSound (s : Seen) : Type 0 where
  -- at most four registers, each with a word of the stack
  pub registers : s.in_registers ≤ 4
  pub in_use : s.in_registers ≤ length s.words
  -- no more words than STACK, and neither STACK nor the extra segment above 32,000
  pub words : length s.words ≤ s.limit
  pub limit : s.limit ≤ 32000
  pub extra : length s.extra ≤ 32000
  -- the counts are modulo 2 ^ 64
  pub fills : s.fills < 2 ^ 64
  pub spills : s.spills < 2 ^ 64

-- a stack as it is made: in whole mode, the first words of its room in memory, none in a register, nothing counted
abbrev pub made : List ℕ → ℕ → List ℕ → ℕ → ℕ → Seen
made stack capacity extra extra_capacity words = record {
  words = take words stack;
  in_registers = 0;
  limit = length stack;
  extra = extra;
  split = false;
  fills = 0;
  spills = 0;
  capacity = capacity;
  extra_capacity = extra_capacity;
}
