-- How many bytes of a list one read takes.
use Rattle.std.specs.Prelude.{ℕ, List, length, drop, min}

-- from a place in the list on, as many bytes as are there and have room
abbrev pub taken_count : List ℕ → ℕ → ℕ → ℕ
taken_count bytes at room = min room (length (drop at bytes))
