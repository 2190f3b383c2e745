-- The segments of all programs, by key.
use Rattle.std.specs.Prelude.{ℕ, ◌+◌, ◌*◌, ◌/◌, ◌%◌, List, [], map, length, slice_get, Option, option_and_then, unwrap_or}
use Rattle.hp_program.specs.declared.program.Program.{Program}
use Rattle.hp_program.specs.Programs.{segments_of}

-- the segments of each program
abbrev pub codes_of : List Program → List (List (List ℕ))
codes_of programs = map segments_of programs

-- the key of a segment: 256 for each program before its own, and its number
abbrev pub key_of : ℕ → ℕ → ℕ
key_of program seg = program * 256 + seg

-- the words of the segment that a key names, if there is one
unfoldable pub segment_at : List (List (List ℕ)) → ℕ → Option (List ℕ)
segment_at codes key = option_and_then (λ segments. slice_get segments (key % 256)) (slice_get codes (key / 256))

-- the number of its words
abbrev pub size_of : List (List (List ℕ)) → ℕ → ℕ
size_of codes key = length (unwrap_or (segment_at codes key) [])
