-- A valid program: the counts of its head and segments, its main entry, and each label of its tables.
use Rattle.std.specs.Prelude.{ℕ, zero, suc, ◌+◌, ◌-◌, Bool, false, ◌==◌, ◌&&◌, nat_lt, nat_le, not, List, [], ◌∷◌, length, slice_index, slice_get, Option, None, Some, if◌then◌else◌}
use Rattle.hp_program.specs.declared.program.Defect.{Defect}
use Rattle.hp_program.specs.declared.program.Defect.TheVariants.{Head, Segment, Label as BadLabel, Main}
use Rattle.hp_instr.specs.declared.labels.Label.{Label}
use Rattle.hp_instr.specs.declared.labels.Label.TheVariants.{Local, External, Bad}
use Rattle.hp_instr.specs.Labels.{label}

-- the number of entries of a segment is its last word
abbrev pub entries_of : List ℕ → ℕ
entries_of words = slice_index words (length words - 1)

-- the label of entry n, which stands n words before the last
abbrev pub label_of : List ℕ → ℕ → ℕ
label_of words n = slice_index words (length words - 1 - n)

-- a segment has 2 to 16,383 words, and at most 127 entries, which with their number fit into it
unfoldable pub is_well_sized : List ℕ → Bool
is_well_sized words = nat_le 2 (length words) && nat_le (length words) 16383 && nat_le (entries_of words) 127 && nat_le (entries_of words) (length words - 1)

-- a local label leads to a word before the table of its segment
unfoldable pub is_local : List ℕ → Label → Bool
is_local words (Local offset) = nat_lt offset (length words - 1 - entries_of words)
is_local words (External seg entry) = false
is_local words (Bad w) = false

-- entry n of a segment is there, and its label is local
unfoldable pub is_local_entry : Option (List ℕ) → ℕ → Bool
is_local_entry None n = false
is_local_entry (Some words) n = not (n == 0) && nat_le n (entries_of words) && is_local words (label (label_of words n))

-- an external label leads to a local entry of a segment; segment 255 is the gate, whose entries are the eight intrinsics
unfoldable pub is_external : List (List ℕ) → ℕ → ℕ → Bool
is_external segments seg entry =
    if seg == 255 then nat_lt 0 entry && nat_le entry 8 else is_local_entry (slice_get segments seg) entry

-- a label of a segment's table leads somewhere
unfoldable pub leads : List (List ℕ) → List ℕ → Label → Bool
leads segments words (Local offset) = is_local words (Local offset)
leads segments words (External seg entry) = is_external segments seg entry
leads segments words (Bad w) = false

-- 1 to 62 segments, the main one among them, and at most 32,000 data words
unfoldable pub is_head : List (List ℕ) → ℕ → List ℕ → Bool
is_head segments main globals = nat_lt 0 (length segments) && nat_le (length segments) 62 && nat_lt main (length segments) && nat_le (length globals) 32000

-- the first segment from number s on that is not well sized
unfoldable pub bad_segment : ℕ → List (List ℕ) → Option Defect
bad_segment s [] = None
bad_segment s (words ∷ rest) = if is_well_sized words then bad_segment (s + 1) rest else Some (Segment s)

-- the first bad label of segment s from entry n on, of which `left` are left
unfoldable pub bad_label : List (List ℕ) → ℕ → List ℕ → ℕ → ℕ → Option Defect
bad_label segments s words n zero = None
bad_label segments s words n (suc left) =
    if leads segments words (label (label_of words n)) then bad_label segments s words (n + 1) left else Some (BadLabel s n)

-- the first of two faults
abbrev pub or_else : Option Defect → Option Defect → Option Defect
or_else None other = other
or_else (Some d) other = Some d

-- the first bad label of the segments from number s on
unfoldable pub bad_table : List (List ℕ) → ℕ → List (List ℕ) → Option Defect
bad_table segments s [] = None
bad_table segments s (words ∷ rest) = or_else (bad_label segments s words 1 (entries_of words)) (bad_table segments (s + 1) rest)

-- what is wrong with a program first: its head, a segment, its main entry, a label
unfoldable pub first_defect : List (List ℕ) → ℕ → ℕ → List ℕ → Option Defect
first_defect segments main entry globals =
    if not (is_head segments main globals) then Some Head else
    or_else (bad_segment 0 segments)
    (if not (is_local_entry (slice_get segments main) entry) then Some Main else bad_table segments 0 segments)
