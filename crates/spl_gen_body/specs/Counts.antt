-- Small views of what the generator has.
use Rattle.std.specs.Prelude.{ℕ, ◌==◌, ◌||◌, Bool}

-- the codes of instructions with a number of words: EXIT, SXIT, ROOM, ADDS
abbrev pub is_count : ℕ → Bool
is_count which = which == 1 || which == 2 || which == 6 || which == 7
