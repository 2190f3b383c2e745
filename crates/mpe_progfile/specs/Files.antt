-- The file of a program, byte by byte. Words stand high byte first.
use Rattle.std.specs.Prelude.{ℕ, ◌≡◌, ◌/◌, ◌%◌, List, [], ◌∷◌, ◌++◌, length, codes}
use Rattle.hp_program.specs.declared.program.Program.{Program}
use Rattle.hp_program.specs.Programs.{segments_of}

-- a word
abbrev pub word_bytes : ℕ → List ℕ
word_bytes w = w / 256 ∷ w % 256 ∷ []

-- words in order
abbrev pub words_bytes : List ℕ → List ℕ
words_bytes [] = []
words_bytes (w ∷ ws) = word_bytes w ++ words_bytes ws

-- a segment: its size in words, its table with it, and its words
abbrev pub segment_bytes : List ℕ → List ℕ
segment_bytes words = word_bytes (length words) ++ words_bytes words

abbrev pub segments_bytes : List (List ℕ) → List ℕ
segments_bytes [] = []
segments_bytes (s ∷ ss) = segment_bytes s ++ segments_bytes ss

-- the first four bytes of each file
abbrev pub magic : List ℕ
magic = codes "MPEP"

-- the version of the format
abbrev pub version : ℕ
version = 1

-- The magic, the version, the number of segments, the main segment, the main entry, the number of data words, these, and the segments.
unfoldable pub file_of : List (List ℕ) → ℕ → ℕ → List ℕ → List ℕ
file_of segments main entry globals =
    magic ++ word_bytes version ++ word_bytes (length segments) ++ word_bytes main ++ word_bytes entry ++ word_bytes (length globals)
    ++ words_bytes globals ++ segments_bytes segments

-- these bytes are the file of a program
abbrev pub IsFile : Program → List ℕ → Type 0
IsFile p bytes = bytes ≡ file_of (segments_of p) p.main p.entry p.globals.items
