-- How a step moves the numbers of a stack in registers: how many words stand in registers, the fills and the spills.
use Rattle.std.specs.Prelude.{ℕ, ◌+◌, ◌-◌, ◌%◌, ◌^◌, min, max, Result, Ok, Err}
use Rattle.hp_word.specs.declared.endings.Trap.{Trap}
use Rattle.hp_word.specs.declared.endings.Trap.TheVariants.{StackUnderflow, Illegal}
use Rattle.hp_tos.specs.Seen.{Seen}

-- how a step comes by the words that it takes
pub data Way : Type 0 where
  -- it needs them in registers: those that are wanting are filled
  filling : Way
  -- it drops them, those in registers first and then those in memory, with no fill
  dropping : Way

-- how many words a step takes, from the deepest that its row names up to the top, in which way, and how many stand in their
-- place afterwards
pub record Uses : Type 0 where
  pub way : Way
  pub taken : ℕ
  pub left : ℕ

-- those of nearly every row
abbrev pub uses : ℕ → ℕ → Uses
uses taken left = record { way = filling; taken = taken; left = left }

-- those of a row that drops words
abbrev pub drops : ℕ → Uses
drops taken = record { way = dropping; taken = taken; left = 0 }

-- the numbers: SR, and the two counts, modulo 2 ^ 64
pub record Numbers : Type 0 where
  pub in_registers : ℕ
  pub fills : ℕ
  pub spills : ℕ

-- those of a stack
abbrev pub numbers : Seen → Numbers
numbers s = record { in_registers = s.in_registers; fills = s.fills; spills = s.spills }

-- when the words that a step takes are at hand
abbrev pub at_hand : Way → ℕ → Seen → Numbers
at_hand filling taken s = record {
  in_registers = max s.in_registers taken;
  fills = (s.fills + (taken - s.in_registers)) % 2 ^ 64;
  spills = s.spills;
}
at_hand dropping taken s = numbers s

-- so many words go, those in registers first, and so many are pushed: each word above four is a spill
abbrev pub exchanging : ℕ → ℕ → Numbers → Numbers
exchanging taken left n = record n {
  in_registers = min 4 (n.in_registers - taken + left);
  spills = (n.spills + (n.in_registers - taken + left - 4)) % 2 ^ 64;
}

-- what a step makes of the numbers, by its answer. One that is done takes its words, and leaves others in their place. A word
-- that is no instruction, and a step that finds too few words, move nothing; any other trap comes after the fills and before
-- the pushes
abbrev pub moved : Uses → Result (Unit {0}) Trap → Seen → Numbers
moved u (Ok done) s = exchanging u.taken u.left (at_hand u.way u.taken s)
moved u (Err Illegal) s = numbers s
moved u (Err StackUnderflow) s = numbers s
moved u (Err trap) s = at_hand u.way u.taken s
