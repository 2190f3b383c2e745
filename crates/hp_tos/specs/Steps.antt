-- How a whole step moves the words and the three numbers: the words from the deepest that it names up to the top are
-- needed and taken, and those that stand there afterwards are pushed.
use Rattle.std.specs.Prelude.{ℕ, ◌+◌, ◌-◌, ◌%◌, ◌^◌, min, List, [], ◌∷◌, ◌++◌, length}
use Rattle.hp_tos.specs.Seen.{Seen}
use Rattle.hp_tos.specs.Calls.{filled, pushed, dropped}

-- words pushed one after the other, the first of the list first
abbrev pub pushed_all : List ℕ → Seen → Seen
pushed_all [] s = s
pushed_all (w ∷ ws) s = pushed_all ws (pushed w s)

-- the same told at once: all stand on top, four words at most in registers, and those above four were spilled
abbrev pub pushed_together : List ℕ → Seen → Seen
pushed_together ws s = record s {
  words = s.words ++ ws;
  in_registers = min 4 (s.in_registers + length ws);
  spills = (s.spills + (s.in_registers + length ws - 4)) % 2 ^ 64;
}

-- a step that takes n words and leaves these in their place
abbrev pub stepped : ℕ → List ℕ → Seen → Seen
stepped n ws s = pushed_all ws (dropped n (filled n s))
